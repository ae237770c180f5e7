-- `but_last` meets its contract: each form has its parts.
-- Assumes nothing.
use Rattle.converts.specs.Buffers.{record_but_last, listing_but_last}
use Rattle.converts.proofs.largest.but_last.Goals as goal

pub returns-in-Record : goal.returns-in-Record
unfolding record_but_last
returns-in-Record c = rw c.in-Record.is c.parts_but_last.ensures

pub returns-in-Listing : goal.returns-in-Listing
unfolding listing_but_last
returns-in-Listing c = rw c.in-Listing.is c.parts_but_last-in-Listing.ensures
