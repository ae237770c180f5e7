-- The laws of this crate's definitions, for the proofs of its callers.
-- a test that both holds and fails
pub mod BoolLaws
-- equal bytes, and parts of a list
pub mod BytesLaws
-- numbers written in n bytes
pub mod ValueLaws
-- numbers of two, four and six bytes at a place
pub mod WordsLaws
-- numbers of eight bytes at a place, and lists compared eight bytes at a time
pub mod EightLaws
-- bytes of a part, by their places in the whole
pub mod PartLaws
-- bytes that stand at a place
pub mod PlaceLaws
-- taking a reading apart
pub mod ReadLaws
-- writing at a place, one thing after the other
pub mod WriteLaws
-- a mask bit by bit
pub mod BitLaws
-- masks as a whole
pub mod BitsLaws
-- a number in sevens, byte by byte
pub mod SevensSteps
-- a number of more than one byte, group by group
pub mod LongerLaws
-- a number in sevens, written and read back
pub mod SevensLaws
-- a place as the code answers it
pub mod FoundLaws
