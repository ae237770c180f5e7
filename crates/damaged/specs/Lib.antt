-- What the cases change.
pub mod Changes
