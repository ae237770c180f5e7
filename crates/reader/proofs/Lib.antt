-- The laws of this crate's definitions, for the proofs of its callers.
pub mod StepLaws
pub mod ReadingLaws
mod Cases
