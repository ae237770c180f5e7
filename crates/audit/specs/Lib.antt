-- "Audit trail and staged audit" (request 105).
-- what the entries of a SACL are, which of them fire, and the events of a question
pub mod Spot
pub mod Events
-- an event's bytes, and the trail
pub mod Trail
-- how the code goes about it: an entry, and the next event; what is measured first and written then
pub mod Walking
pub mod Noting
