-- The laws of this crate's definitions, for the proofs of its callers.
pub mod KeyLaws
pub mod SeatsLaws
