-- `matches` meets its contract: a virtual identity is answered by the hits, any other by the tables.
-- Assumes nothing.
use mathlib.Core.Path.{sym, ◌∙◌}
use Rattle.passes.specs.Crowds.{shown_in}
use Rattle.passes.proofs.MatchingLaws.{matches_virtual, matches_among}
use Rattle.passes.proofs.matching.Crowd.matches.Goals as goal

pub returns-then-is_virtual : goal.returns-then-is_virtual
returns-then-is_virtual c =
    let a = c.args in
    c.matches.ensures
    ∙ sym (matches_virtual a.allow (shown_in a.self) a.w.now a.self.hits
    (sym c.is_virtual.ensures ∙ c.if-is_virtual.true))

pub returns-else-is_virtual : goal.returns-else-is_virtual
returns-else-is_virtual c =
    let a = c.args in
    c.among.ensures
    ∙ sym (matches_among a.allow (shown_in a.self) a.w.now a.self.hits
    (sym c.is_virtual.ensures ∙ c.if-is_virtual.false))
