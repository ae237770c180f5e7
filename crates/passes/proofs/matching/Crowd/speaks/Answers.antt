-- `speaks` meets its contract: an entry without a condition speaks where its SID matches. Assumes nothing.
use mathlib.Core.Path.{sym, ◌∙◌}
use Rattle.conditions.proofs.MembershipLaws.{admits_none}
use Rattle.passes.specs.Crowds.{shown_in}
use Rattle.passes.specs.OnePass.{member}
use Rattle.passes.proofs.matching.Crowd.speaks.Goals as goal

pub returns-then-not-is_callback : goal.returns-then-not-is_callback
returns-then-not-is_callback c =
    let a = c.args in
    rw (c.if-not-is_callback.true, c.if-hit.true, sym c.is_callback.ensures ∙ c.if-not-is_callback.true)
    (sym (admits_none (member (shown_in a.self) a.self.hits)))
