-- `entry_at` meets its contract: where an entry stands, it says what the definition says, and the SID of an audit entry lies inside the
-- list. Assumes nothing.
use Prim.Native.Nat.{◌+◌}
use mathlib.Core.Path.{◌≡◌, sym, ◌∙◌}
use mathlib.Core.Bool.{false}
use native.Mathlib.Omega.{arith}
use Rattle.base.proofs.FoundLaws.{none_found, place_found}
use Rattle.sids.specs.Sid.{sid_end}
use Rattle.lists.specs.Acl.{entry_end}
use Rattle.lists.proofs.EntrySteps.{some_found, unwrapped}
use Rattle.audit.proofs.EntrySteps.{spot_at_none, spot_at_other, spot_at_made, spot_sid, read_is}
use Rattle.audit.proofs.entry.entry_at.Goals as goal

pub returns-in_err-next-clause-value : goal.returns-in_err-next-clause-value
returns-in_err-next-clause-value c =
    rw (c.from_residual.ensures, spot_at_none c.args.l.now c.args.at (none_found (entry_end false c.args.l.now c.args.at) c.in_err-next.ensures.value))

pub returns-then-l-at-ne2-clause-value : goal.returns-then-l-at-ne2-clause-value
returns-then-l-at-ne2-clause-value c =
    let q = place_found (entry_end false c.args.l.now c.args.at) c.in_ok-next.next c.in_ok-next.ensures.value in
    read_is _ _ (spot_at_other c.args.l.now c.args.at _ (sym q.is) (λ z. q.there (sym q.is ∙ z)) c.if-l-at-ne2.true) q.there

pub unwrap-requires : goal.unwrap-requires
unwrap-requires c =
    let a = c.args in
    let q = place_found (entry_end false a.l.now a.at) c.in_ok-next.next c.in_ok-next.ensures.value in
    let s = spot_sid a.l.now a.at _ (sym q.is) (λ z. q.there (sym q.is ∙ z)) c.if-l-at-ne2.false in
    some_found (sid_end a.l.now (a.at + 8)) _ c.sid_end.ensures.value (λ z. omega (arith, s.0, z))

pub returns : goal.returns
returns c =
    let a = c.args in
    let q = place_found (entry_end false a.l.now a.at) c.in_ok-next.next c.in_ok-next.ensures.value in
    let some : entry_end false a.l.now a.at ≡ 0 → ⊥ = λ z. q.there (sym q.is ∙ z) in
    let t = unwrapped (sid_end a.l.now (a.at + 8)) _ _ c.sid_end.ensures.value c.unwrap.ensures in
    let s = spot_sid a.l.now a.at _ (sym q.is) some c.if-l-at-ne2.false in
    record {
      value = read_is _ _ (spot_at_made a.l.now a.at _ (sym q.is) some c.if-l-at-ne2.false _ _ c.u32_at.ensures t) q.there;
      lies = (omega (arith, s.0, t), omega (arith, s.1, t));
    }
