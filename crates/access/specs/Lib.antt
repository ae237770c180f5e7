-- The question and its answer, in the page's order.
-- what is found for a kind, and what its audit seeks
pub mod Evaluated
-- status numbers, in order of checking
pub mod Status
-- their numbers, of the refusals by name
pub mod Refusals
-- the trail in a lent buffer, and 11
pub mod Reported
-- how the code goes about it: the masks from the bytes of a flat listing; numbers 3 to 10 and what is found, whatever the mask
pub mod Evaluating
pub mod Cases
pub mod Findings
