-- What every page of definitions leans on: bytes by place, bits of a mask, and numbers in sevens.
-- bytes by place, and readings of them
pub mod Bytes
-- masks of 32 bits
pub mod Bits
-- numbers in groups of seven bits
pub mod Sevens
-- what was written at a place
pub mod Writing
