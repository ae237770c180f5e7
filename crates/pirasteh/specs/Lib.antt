-- What the exported functions hand out.
pub mod Told
-- the answer and its masks, for those who ask why
pub mod Explained
-- the answer and its trail
pub mod Followed
