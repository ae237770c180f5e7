-- What a line of a case says.
pub mod Line
