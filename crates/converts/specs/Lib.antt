-- What the cases are built of, and what is looked at in a buffer.
pub mod Buffers
-- the two forms of a token
pub mod Forms
