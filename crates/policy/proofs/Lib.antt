-- What the proofs of this crate and of its callers cite.
-- the steps of the code, in the order of the source
pub mod SectionSteps
pub mod OneRuleSteps
pub mod PolicySteps
pub mod RulesSteps
-- an accepted policy, and what its rules come to
pub mod PolicyLaws
pub mod RulesLaws
