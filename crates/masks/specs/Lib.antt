-- "Kinds and masks", and of "One pass over a list" the tally.
-- the two kinds, generic bits, explicit and asked bits
pub mod KindsAndMasks
-- bits decided and bits allowed, one entry after the other
pub mod TheTally
