-- What the programs that are tests share.
-- words, lines and bytes in pairs of digits
pub mod Text
-- descriptor D
pub mod Sample
