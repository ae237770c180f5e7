-- What the code answers, in the words of the formats and the token rules.
-- a conversion
pub mod Answers
-- the judge of a listing, and a listing in a buffer of its own
pub mod Judging
