-- Conditional expressions (request 103). Nothing here knows who asks.
-- what a scan finds
pub mod Scanning
-- expressions: tokens, operands, and what the whole comes to
pub mod Condition
-- what they come to for a membership test
pub mod Membership
-- how the code goes about it: the operands in a word of two bits each
pub mod Stack
