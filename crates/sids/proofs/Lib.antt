-- The laws of this crate's definitions, for the proofs of its callers.
pub mod SidLaws
pub mod SingleLaws
mod Cases
