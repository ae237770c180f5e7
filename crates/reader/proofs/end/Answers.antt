-- `end` meets its contract. The loop's invariant: the list ends where the entries left from here do. Assumes nothing.
use Prim.Native.Nat.{ℕ, ◌+◌, ◌-◌}
use mathlib.Core.Path.{sym, ap, ◌∙◌}
use native.Mathlib.Omega.{arith}
use Rattle.base.specs.Bytes.{u16_at}
use Rattle.lists.specs.Acl.{ace_at}
use Rattle.lists.specs.declared.acl.Ace.{Ace}
use Rattle.lists.proofs.EntrySteps.{stands_not, stands_is}
use Rattle.reader.specs.Reading.{end_from}
use Rattle.reader.proofs.StepLaws.{end_none, end_stop, end_more, end_left}
use Rattle.reader.proofs.end.Goals as goal

pub loop-init : goal.loop-init
loop-init c = ap (λ (m : ℕ). end_from c.args.list.now m 8) (omega arith)

pub returns-in_default : goal.returns-in_default
returns-in_default c =
    let l = c.args.list.now in
    let n = u16_at l 4 in
    let none = stands_not (ace_at l c.loop.p) (sym c.in_default.is ∙ c.ace_at.ensures.value) in
    sym (c.loop.invariant ∙ end_left l n c.loop.counter c.loop.p (omega arith) ∙ end_stop l (n - (c.loop.counter + 1)) c.loop.p none)

pub loop-preserved : goal.loop-preserved
loop-preserved c =
    let l = c.args.list.now in
    let n = u16_at l 4 in
    let s = stands_is c.in-Some.a (ace_at l c.loop.p) c.in-Some.ensures.value in
    c.loop.invariant ∙ end_left l n c.loop.counter c.loop.p (omega arith) ∙ end_more l (n - (c.loop.counter + 1)) c.loop.p s.1
    ∙ ap (λ (a : Ace). end_from l (n - (c.loop.counter + 1)) a.next) (sym s.0)

pub returns : goal.returns
returns c =
    let l = c.args.list.now in
    let n = u16_at l 4 in
    sym (c.loop.invariant ∙ end_none l (n - c.loop.counter) c.loop.p (omega arith))
