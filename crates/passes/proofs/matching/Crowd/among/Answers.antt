-- `among` meets its contract: those whom the tables show of a SID are its chain.
-- Assumes nothing.
use mathlib.Core.Path.{sym, ◌∙◌}
use Rattle.passes.proofs.ChainsLaws.{among_start}
use Rattle.passes.proofs.matching.Crowd.among.Goals as goal

pub search_chain-requires : goal.search_chain-requires
search_chain-requires c = c.head-n.ensures.upper_bound

pub returns : goal.returns
returns c =
    let a = c.args in
    c.search_chain.ensures
    ∙ sym (among_start a.allow a.self.heads.now a.self.seats.now a.self.listing.now a.w.now c.head-n.result c.head-n.ensures.value)
