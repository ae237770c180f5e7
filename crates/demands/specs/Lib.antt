-- The words of the demands, over the definitions of the check.
-- accepted questions, and the answer of the rules
pub mod Accepted
-- the table of status numbers, line by line
pub mod Conditions
-- the converters: their numbers line by line, and what they write
pub mod Conversions
-- demand 3's words: strangers
pub mod Strangers
-- request 101's words: lists that read the same
pub mod LongEntries
-- request 102's words: owner entries that count, and lists without their inherit-only entries
pub mod OwnerEntries
-- request 103's words: rules that apply to the asker, and conditions of entries
pub mod SomeCallers
-- request 105's words: the table for a check that lends a buffer for its trail
pub mod Trails
-- request 106's words: the four masks, and the step that takes a bit
pub mod FourMasks
