-- `policy::rules::Asker::narrowed` meets its contract: the rule's effective list, its staged one where it has one, and whether its SACL
-- sections have bytes. Assumes nothing.
use Prim.Native.Nat.{ℕ}
use mathlib.Core.Path.{ap, ◌∙◌}
use Rattle.std.proofs.Common.{rules}
use mathlib.Core.List.{List}
use mathlib.Core.Bool.{Bool, ◌||◌}
use borrow.Author.Tests.{lt-ltb, le-ltb}
use Rattle.lists.specs.ByLength.{entries_by_length}
use Rattle.passes.specs.Crowds.{shown_in}
use Rattle.policy.specs.Rules.{result_of}
use Rattle.policy.specs.ByLengths.{lists_by_lengths}
use Rattle.policy.proofs.RulesSteps.{section_there, narrowed_plain, narrowed_staged}
use Rattle.policy.proofs.rules.Asker.narrowed.Goals as goal
use Rattle.policy.proofs.rules.Asker.narrowed.Goals.{then-r, else-r}

pub returns : goal.returns
returns c =
    let a = c.args in
    let b = c.args.before in
    let r = c.args.r in
    let k = c.args.self in
    let f : List ℕ → ℕ = λ (l : List ℕ). result_of k.kind (shown_in k.crowd) k.crowd.hits k.privileges (entries_by_length l) in
    let e = c.result-e.ensures ∙ ap f c.bytes_of.ensures in
    let audits = ap (λ (t : Bool). b.has_sacl || t) (section_there a.s.now r.sacl (search rules)) in
    let stages = ap (λ (t : Bool). b.has_staged_sacl || t) (section_there a.s.now r.staged_sacl (search rules)) in
    elim c.if-r.branch [
      | then-r w ↦
          rw w.differ-is
          (narrowed_staged k.kind (shown_in k.crowd) k.crowd.hits k.privileges b (lists_by_lengths a.s.now r) c.result-e.result.0 e _ _ audits
          stages w.result-q.result.0 (w.result-q.ensures ∙ ap f w.bytes_of-then-r.ensures) (lt-ltb _ _ w.if-r.true))
      | else-r w ↦
          rw w.differ-is
          (narrowed_plain k.kind (shown_in k.crowd) k.crowd.hits k.privileges b (lists_by_lengths a.s.now r) c.result-e.result.0 e _ _ audits
          stages (le-ltb _ _ w.if-r.false))
    ]
