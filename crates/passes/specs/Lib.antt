-- "One pass over a list", in the page's order.
-- which SIDs match, for allow and for deny, with the two virtual identities
pub mod Matching
-- entries in stored order, and what they decide
pub mod OnePass
-- owner's rights and the two privileges
pub mod NormalEvaluation
-- the same list with the confinement identities alone
pub mod Confinement
-- how the code goes about it: the seats of a listing chained by the keys of their SIDs
pub mod Chains
-- whom a crowd shows, by its tables
pub mod Crowds
-- what one walk answers, for every evaluation
pub mod OneWalk
