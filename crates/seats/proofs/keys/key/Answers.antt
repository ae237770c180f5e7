-- `key` meets its contract: the number of all words, spread.
-- Assumes nothing.
use Rattle.seats.specs.Key.{key_of}
use Rattle.seats.proofs.keys.key.Goals as goal

pub returns : goal.returns
unfolding key_of
returns c = record { value = rw (← c.mixed.ensures) c.spread.ensures.0; upper_bound = c.spread.ensures.1 }
