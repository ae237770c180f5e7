-- `scan_all` meets its contract. The loop's invariant: the list comes to what the entries left come to, something foreign met or not.
-- Assumes nothing.
use Prim.Native.Nat.{ℕ, ◌+◌, ◌-◌}
use mathlib.Core.Bool.{Bool, false, cond}
use mathlib.Core.Path.{sym, ap, ◌∙◌}
use native.Mathlib.Omega.{arith}
use Rattle.base.specs.Bytes.{u16_at}
use Rattle.base.proofs.FoundLaws.{none_found, place_found}
use Rattle.conditions.specs.Scanning.{is_broken, scan_result}
use Rattle.conditions.specs.Scanning.Scan.{Foreign, Plain}
use Rattle.lists.specs.Acl.{entry_end, content_of}
use Rattle.lists.proofs.EntrySteps.{Left, scan_start, scan_end, scan_broken, scan_spoilt, scan_plain, scan_alien}
use Rattle.lists.proofs.EntrySteps.{content_broken, content_other, content_fine}
use Rattle.lists.proofs.acl.scan_all.Goals.{in-Ok, in-Err-Foreign}
use Rattle.lists.proofs.acl.scan_all.Goals as goal

pub loop-init : goal.loop-init
loop-init c =
    let a = c.args in
    scan_start a.deep a.l.now ∙ ap (λ (m : ℕ). Left a.deep a.l.now false m 8) (omega arith)

pub returns-in_default : goal.returns-in_default
returns-in_default c =
    let a = c.args in
    let none = none_found (entry_end a.deep a.l.now c.loop.at) (sym c.in_default.is ∙ c.entry_end.ensures.value) in
    sym (ap scan_result (c.loop.invariant
    ∙ scan_broken a.deep a.l.now c.loop.alien (u16_at a.l.now 4) c.loop.counter c.loop.at (omega arith) none))

pub content-requires : goal.content-requires
content-requires c =
    let a = c.args in
    let p = place_found (entry_end a.deep a.l.now c.loop.at) c.in-Some.e c.in-Some.ensures.value in
    let i = c.in-Some.ensures.inside in
    record { at_lt_e = (omega (arith, i.0), omega (arith, i.1)); at_value = p.is }

pub returns-in-Err-Broken : goal.returns-in-Err-Broken
returns-in-Err-Broken c =
    let a = c.args in
    let p = place_found (entry_end a.deep a.l.now c.loop.at) c.in-Some.e c.in-Some.ensures.value in
    let b = ap is_broken (content_broken (content_of a.deep a.l.now c.loop.at c.in-Some.e) _ c.in-Err-Broken.field-0-is
    (sym c.in-Err-Broken.is ∙ c.content.ensures)) in
    sym (ap scan_result (c.loop.invariant
    ∙ scan_spoilt a.deep a.l.now c.loop.alien (u16_at a.l.now 4) c.loop.counter c.loop.at c.in-Some.e (sym p.is) p.there (omega arith) b))

pub loop-preserved : goal.loop-preserved
loop-preserved c =
    let a = c.args in
    let p = place_found (entry_end a.deep a.l.now c.loop.at) c.in-Some.e c.in-Some.ensures.value in
    let at = c.loop.at in
    let to = c.in-Some.e in
    let left = λ (t : Bool). Left a.deep a.l.now t (u16_at a.l.now 4 - (c.loop.counter + 1)) to in
    c.loop.invariant
    ∙ elim c.match-content.branch [
      | in-Ok w ↦ scan_plain a.deep a.l.now c.loop.alien (u16_at a.l.now 4) c.loop.counter at to (sym p.is) p.there (omega arith)
          (content_fine (content_of a.deep a.l.now at to) _ (sym w.in-Ok.is ∙ c.content.ensures))
          ∙ ap left (sym w.alien-is)
      | in-Err-Foreign w ↦ scan_alien a.deep a.l.now c.loop.alien (u16_at a.l.now 4) c.loop.counter at to (sym p.is) p.there (omega arith)
          (content_other (content_of a.deep a.l.now at to) _ w.in-Err-Foreign.field-0-is (sym w.in-Err-Foreign.is ∙ c.content.ensures))
          ∙ ap left (sym w.alien-is)
    ]

pub returns-then-alien : goal.returns-then-alien
returns-then-alien c =
    let a = c.args in
    let e = scan_end a.deep a.l.now c.loop.alien (u16_at a.l.now 4) c.loop.counter c.loop.at (omega arith) in
    sym (ap scan_result (c.loop.invariant ∙ e ∙ ap (λ (t : Bool). cond t Foreign Plain) c.if-alien.true))

pub returns-else-alien : goal.returns-else-alien
returns-else-alien c =
    let a = c.args in
    let e = scan_end a.deep a.l.now c.loop.alien (u16_at a.l.now 4) c.loop.counter c.loop.at (omega arith) in
    sym (ap scan_result (c.loop.invariant ∙ e ∙ ap (λ (t : Bool). cond t Foreign Plain) c.if-alien.false))
