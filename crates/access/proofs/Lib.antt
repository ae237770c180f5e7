-- The laws that the proofs of the functions lean on. What is proved of the answers stands in `demands`.
-- the evaluation from a flat listing, and the check read off what is found
pub mod EvaluatingLaws
pub mod FindingsLaws
pub mod ReportLaws
mod EvaluatingSteps
mod AuditingSteps
mod AnsweringSteps
mod SeatingLaws
mod TokenSteps
