-- The laws of this crate's definitions, for the proofs of its callers.
pub mod TypeLaws
pub mod AclSteps
pub mod EntrySteps
pub mod SimpleLaws
pub mod AclLaws
pub mod ByLengthLaws
pub mod SpareLaws
pub mod AlikeLaws
pub mod DescriptorSteps
pub mod PieceLaws
pub mod DescriptorLaws
pub mod HandedLaws
mod Cases
