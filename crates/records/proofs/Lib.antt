-- The laws of the formats, for the proofs of this crate and of its callers.
-- reading and writing, once for both formats
pub mod FormatLaws
-- the fields of a token
pub mod FieldsLaws
-- an identity where its bytes stand
pub mod IdentityLaws
-- the flat listing as a format
pub mod ListingLaws
-- the packed record as a format
pub mod RecordLaws
-- there and back
pub mod RoundTrip
-- how long a token's bytes are
pub mod LengthLaws
-- the longest listing and the longest record
pub mod LimitLaws
-- tokens that are as long
pub mod LargestLaws
-- a record beside its listing
pub mod TwiceLaws
-- a listing shows whom its token shows
pub mod CrowdLaws
-- what is packed, step by step
pub mod PackLaws
-- the whole record, part by part
pub mod PackRecordLaws
-- what is packed of a listing is its token's record
pub mod PackedLaws
-- the head of a SID in one number
pub mod HeadLaws
-- what readings in a row come to
pub mod UnpackLaws
-- what a step comes to, as the code answers it
pub mod StepLaws
-- the room for what is unpacked
pub mod RoomLaws
-- a packed record as the bytes of its listing
pub mod RecordBytes
-- what is said of the token rules
pub mod CleanLaws
-- what the whole record comes to
pub mod RecordAnswer
