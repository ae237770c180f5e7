-- What the proofs of this crate and of its callers cite.
-- the steps of the code, and what a walk finds
pub mod EntrySteps
pub mod WalkingLaws
pub mod StagingSteps
-- measuring or writing, one thing after the other
pub mod NotingLaws
-- the events of a SACL, of a rule and of all rules, one after the other
pub mod PuttingSteps
-- crowds that match alike, and where there is nothing to do
pub mod AlikeLaws
pub mod NothingLaws
