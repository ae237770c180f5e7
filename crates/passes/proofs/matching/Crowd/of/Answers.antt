-- `of` meets its contract: the tables are as they were handed in, and the hits are the owner's and the self identity's.
-- Assumes nothing.
use mathlib.Core.Path.{ap₂}
use Rattle.passes.specs.Matching.{hits_of, hits_by}
use Rattle.passes.proofs.matching.Crowd.of.Goals as goal

pub returns-clause-hits : goal.returns-clause-hits
unfolding hits_of
returns-clause-hits c = ap₂ hits_by c.hit.ensures c.hit-2.ensures
