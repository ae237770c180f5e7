-- What is proved of the answers, over the definitions.
-- accepted questions have the answer of the rules
pub mod AcceptedLaws
-- the numbers of descriptor and policy, of the whole question, of the question file and of the converters
pub mod NumbersLaws
pub mod StatusLaws
pub mod FileLaws
pub mod ConverterLaws
-- demand 3: a stranger matches nobody; SACLs; the whole; a rule more
pub mod UnknownLaws
pub mod AuditStrangersLaws
pub mod StrangersLaws
pub mod GainLaws
-- request 101
pub mod LongEntriesLaws
-- request 102
pub mod OwnerEntriesLaws
pub mod OwnersRightsLaws
pub mod ObjectListsLaws
-- request 103
pub mod SomeCallersLaws
-- request 105
pub mod TrailLaws
pub mod FileTrailLaws
-- how long a trail is at most: where a rule's SACL stands, a SACL's events, a question's, a file's
pub mod RuleSaclLaws
pub mod SaclBoundLaws
pub mod TrailBoundLaws
pub mod FileBoundLaws
-- request 106
pub mod FourMasksLaws
-- what a reader of the page expects
pub mod ReaderLaws
