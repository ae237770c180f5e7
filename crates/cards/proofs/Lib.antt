-- Worked questions, by computation over the definitions.
-- every definition that is computed with, opened by one name
mod Opened
-- the starred cards and worked refusals
pub mod CardsHold
-- the dummies that demand 2 shuts out
pub mod Dummies
-- pairs of questions that meet the conditions of demand 3
pub mod DemandThreeMet
-- a pair that meets the conditions of request 101's `same_reading`
pub mod LongEntriesMet
-- request 102: a folder that its owner keeps, and one that he loses
pub mod OwnerEntriesMet
-- request 105: a trail
pub mod TrailsHold
