-- `entry_end` meets its contract: an entry ends where its heading says and, where its type is judged, its SID inside it.
-- Assumes nothing.
use mathlib.Core.Bool.{Bool, cond}
use mathlib.Core.Path.{sym, ap, ◌∙◌}
use Rattle.base.specs.Bytes.{found}
use Rattle.base.proofs.FoundLaws.{found_none, none_found, place_found}
use Rattle.lists.specs.Acl.{head_end, holds, entry_end}
use Rattle.lists.proofs.EntrySteps.{entry_end_none, entry_end_foreign, entry_end_judged}
use Rattle.lists.proofs.acl.entry_end.Goals as goal

pub returns-in_err-e-clause-value : goal.returns-in_err-e-clause-value
returns-in_err-e-clause-value c =
    let a = c.args in
    c.from_residual.ensures
    ∙ found_none (entry_end a.deep a.l.now a.at) (entry_end_none a.deep a.l.now a.at (none_found (head_end a.l.now a.at) c.in_err-e.ensures.value))

pub returns-then-not-is_judged-clause-value : goal.returns-then-not-is_judged-clause-value
returns-then-not-is_judged-clause-value c =
    let a = c.args in
    let k = sym c.is_judged.ensures ∙ c.if-not-is_judged.true in
    c.in_ok-e.ensures.value ∙ ap found (sym (entry_end_foreign a.deep a.l.now a.at k))

pub returns-then-holds-clause-value : goal.returns-then-holds-clause-value
returns-then-holds-clause-value c =
    let a = c.args in
    let q = place_found (head_end a.l.now a.at) c.in_ok-e.e c.in_ok-e.ensures.value in
    let k = sym c.is_judged.ensures ∙ c.if-not-is_judged.false in
    let h = ap (holds a.l.now a.at) q.is ∙ sym c.holds.ensures ∙ c.if-holds.true in
    c.in_ok-e.ensures.value
    ∙ ap found (sym (entry_end_judged a.deep a.l.now a.at k ∙ ap (λ (t : Bool). cond t (head_end a.l.now a.at) 0) h))

pub returns-else-holds-clause-value : goal.returns-else-holds-clause-value
returns-else-holds-clause-value c =
    let a = c.args in
    let q = place_found (head_end a.l.now a.at) c.in_ok-e.e c.in_ok-e.ensures.value in
    let k = sym c.is_judged.ensures ∙ c.if-not-is_judged.false in
    let h = ap (holds a.l.now a.at) q.is ∙ sym c.holds.ensures ∙ c.if-holds.false in
    found_none (entry_end a.deep a.l.now a.at) (entry_end_judged a.deep a.l.now a.at k ∙ ap (λ (t : Bool). cond t (head_end a.l.now a.at) 0) h)
