-- The laws of this crate's definitions, for the proofs of its callers.
pub mod MatchingLaws
pub mod OnePassLaws
pub mod ChainsLaws
mod CellLaws
mod SitsLaws
mod RowLaws
mod LinkLaws
pub mod ChainedLaws
pub mod CrowdsLaws
pub mod EvaluationLaws
mod LinkSteps
mod WalkSteps
