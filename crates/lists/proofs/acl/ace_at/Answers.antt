-- `ace_at` meets its contract: where an entry with a SID stands, its fields are those of the definition, and its SID lies inside it.
-- Assumes nothing.
use Prim.Native.Nat.{◌+◌}
use mathlib.Core.Bool.{true}
use mathlib.Core.Path.{◌≡◌, sym, ◌∙◌}
use native.Mathlib.Omega.{arith}
use Rattle.base.specs.Bytes.{byte_at}
use Rattle.base.proofs.FoundLaws.{none_found, place_found}
use Rattle.lists.specs.Acl.{named, entry_end, ace_at}
use Rattle.lists.proofs.EntrySteps.{entry_end_sid, entry_end_fits, ace_at_none, ace_at_foreign, ace_at_made, stands_none, stands_some, some_found, unwrapped}
use Rattle.sids.specs.Sid.{sid_end}
use Rattle.sids.proofs.SidLaws.{sid_end_bounds}
use Rattle.lists.proofs.acl.ace_at.Goals as goal

pub returns-in_err-e-clause-value : goal.returns-in_err-e-clause-value
returns-in_err-e-clause-value c =
    let a = c.args in
    c.from_residual.ensures
    ∙ stands_none (ace_at a.l.now a.at) (ace_at_none a.l.now a.at (none_found (entry_end true a.l.now a.at) c.in_err-e.ensures.value))

pub returns-then-not-is_named-clause-value : goal.returns-then-not-is_named-clause-value
returns-then-not-is_named-clause-value c =
    let a = c.args in
    stands_none (ace_at a.l.now a.at) (ace_at_foreign a.l.now a.at (sym c.is_named.ensures ∙ c.if-not-is_named.true))

pub unwrap-to-requires : goal.unwrap-to-requires
unwrap-to-requires c =
    let a = c.args in
    let q = place_found (entry_end true a.l.now a.at) c.in_ok-e.e c.in_ok-e.ensures.value in
    let k : named (byte_at a.l.now a.at) ≡ true = sym c.is_named.ensures ∙ c.if-not-is_named.false in
    some_found (sid_end a.l.now (a.at + 8)) _ c.sid_end.ensures.value (entry_end_sid a.l.now a.at k (λ z. q.there (sym q.is ∙ z)))

pub returns : goal.returns
returns c =
    let a = c.args in
    let q = place_found (entry_end true a.l.now a.at) c.in_ok-e.e c.in_ok-e.ensures.value in
    let some : entry_end true a.l.now a.at ≡ 0 → ⊥ = λ z. q.there (sym q.is ∙ z) in
    let k : named (byte_at a.l.now a.at) ≡ true = sym c.is_named.ensures ∙ c.if-not-is_named.false in
    let sid = entry_end_sid a.l.now a.at k some in
    let t = unwrapped (sid_end a.l.now (a.at + 8)) _ _ c.sid_end.ensures.value c.unwrap-to.ensures in
    let s = sid_end_bounds a.l.now (a.at + 8) sid in
    let f = entry_end_fits a.l.now a.at k some in
    record {
      value = stands_some _ (ace_at a.l.now a.at) (ace_at_made a.l.now a.at _ _ _ c.u32_at-mask.ensures t (sym q.is) k some) q.there;
      inside = (omega (arith, s.0), (omega (arith, f, q.is), omega (arith, c.in_ok-e.ensures.inside.1)));
    }
