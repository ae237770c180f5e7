-- The laws of what the code answers, for the proofs of this crate and of its callers.
-- the judge's walks
pub mod JudgeLaws
-- the judge on a whole listing
pub mod JudgePeople
-- from a record to its listing
pub mod ConvertLaws
-- from a listing to its record
pub mod ToRecordLaws
