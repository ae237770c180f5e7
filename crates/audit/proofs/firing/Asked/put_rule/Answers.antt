-- `put_rule` meets its contract: a rule without a SACL has no events, nor has one that does not apply. Assumes nothing.
use mathlib.Core.Path.{◌≡◌, sym, ap, ◌∙◌}
use mathlib.Core.Bool.{not}
use mathlib.Core.List.{[]}
use borrow.Author.Tests.{eqb-true}
use Rattle.passes.specs.Crowds.{shown_in}
use Rattle.policy.specs.Policy.{bytes_of}
use Rattle.policy.specs.ByLengths.{lists_by_lengths}
use Rattle.audit.proofs.NotingLaws.{noted_none, noted_same, no_bytes}
use Rattle.audit.proofs.PuttingSteps.{rule_empty, rule_passed}
use Rattle.audit.proofs.firing.Asked.put_rule.Goals as goal
use Rattle.audit.proofs.firing.Asked.put_rule.Goals.{then-is_empty-via-then-is_empty, then-is_empty-via-else-is_empty+then-not-admits}

pub returns-then-is_empty-clause-noted : goal.returns-then-is_empty-clause-noted
returns-then-is_empty-clause-noted c =
    let a = c.args in
    let k = a.self in
    elim c.then-is_empty.branch [
      | then-is_empty-via-then-is_empty w ↦
          let e : bytes_of a.s.now a.r.sacl ≡ []
          = no_bytes _ (eqb-true _ _ (sym c.is_empty.ensures ∙ w.if-is_empty.true)) in
          noted_same
          (sym (rule_empty k.sought (shown_in k.crowd) k.crowd.hits a.source (lists_by_lengths a.s.now a.r) e))
          (noted_none a.write a.out.now a.o)
      | then-is_empty-via-else-is_empty+then-not-admits w ↦
          let f = w.admits.ensures in
          noted_same
          (sym
          (rule_passed k.sought (shown_in k.crowd) k.crowd.hits a.source (lists_by_lengths a.s.now a.r) w.admits.result f
          (ap not w.if-not-admits.true)))
          (noted_none a.write a.out.now a.o)
    ]
