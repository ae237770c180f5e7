-- The laws of masks and of the tally.
pub mod MasksLaws
pub mod TallyLaws
