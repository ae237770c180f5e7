-- A crowd as the code holds it: a token's listing, the tables of chains over it, and how the owner and the self identity match in it.
use Rattle.std.specs.Prelude.{List}
use Rattle.records.specs.Crowd.{Member}
use Rattle.passes.specs.Chains.{shown}
use Rattle.passes.specs.declared.matching.Crowd.{Crowd}

-- whom it shows
abbrev pub shown_in : Crowd → List Member
shown_in c = shown c.heads.now c.seats.now c.listing.now
