-- how the code goes about it: a listing read seat by seat
pub mod Seats
-- how the code goes about it: the key of a SID, and its last word
pub mod Key
