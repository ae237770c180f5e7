-- How long a trail may be. In order: an event's bytes (packed_two, event_bytes_le), those of all (trail_append); the entries of a SACL, one
-- by one (found_spot, audits_none, audits_other, audits_found, audit_long), and its events (sacl_bound); the events of all rules
-- (rules_bound).
-- An event takes at most 9 bytes, and the entry that fires at least 16: so 16 bytes of a SACL pay for 9 bytes of the trail. An entry of any
-- type takes at least 4, so an entry's number takes at most two bytes, as a rule's number does.
-- Not here: where a rule's SACL stands, RuleSaclLaws. Assumes nothing.
use Prim.Native.Nat.{ℕ, zero, suc, ◌+◌, ◌-◌, ◌*◌, ◌^◌, ◌<◌, ◌≤◌}
use mathlib.Core.Path.{◌≡◌, refl, ◌∙◌}
use mathlib.Core.List.{List, [], ◌∷◌, ◌++◌}
use mathlib.Core.Bool.{Bool, true, false, cond}
use native.Mathlib.Omega.{arith}
use lib.Dec.{T, eqb}
use lib.Pow.{are_bytes}
use lib.ListN.{length, length-append}
use borrow.Author.Tests.{eq-eqb, ne_eqb, eqb-true, eqb-false}
use Rattle.base.specs.Bytes.{byte_at, u16_at, u32_at}
use Rattle.base.specs.Sevens.{packed}
use Rattle.base.proofs.BytesLaws.{length_part, bytes_part}
use Rattle.base.proofs.WordsLaws.{u32_at_lt}
use Rattle.base.proofs.SevensLaws.{packed_length, packed_length_32}
use Rattle.sids.specs.Sid.{sid_end}
use Rattle.sids.proofs.SidLaws.{sid_end_bounds}
use Rattle.lists.specs.Acl.{audits, entry_end}
use Rattle.lists.proofs.TypeLaws.{judges_shallow}
use Rattle.lists.proofs.EntrySteps.{entry_end_bounds, judged_sid, judged_fits}
use Rattle.records.specs.Crowd.{Member}
use Rattle.passes.specs.declared.matching.Hits.{Hits}
use Rattle.policy.specs.Policy.{bytes_of, rule_at}
use Rattle.policy.specs.Rules.{lists_of, rules_at, applies_to}
use Rattle.audit.specs.Events.{other_spot, spot_at, audit_of, audits_at, audits_of, fires}
use Rattle.audit.specs.Events.{Event, event, events_from, events_in, rule_events, rules_events}
use Rattle.audit.specs.Trail.{event_bytes, trail_bytes}
use Rattle.audit.specs.Spot.{Spot}
use Rattle.audit.specs.declared.firing.Sought.{Sought}
use Rattle.demands.proofs.RuleSaclLaws.{SaclAt, rule_sacl_at, sacl_short}

-- ---- an event's bytes

pub packed_two : (v : ℕ) → v < 16384 → length (packed v) ≤ 2
packed_two v h = packed_length 1 v (omega arith) (omega arith)

pub event_bytes_le : (e : Event) → e.source < 16384 → e.entry < 16384 → e.mask < 2 ^ 32 → length (event_bytes e) ≤ 9
event_bytes_le e a b c =
    let x : length (packed e.source) ≤ 2 = packed_two e.source a in
    let y : length (packed e.entry) ≤ 2 = packed_two e.entry b in
    let z : length (packed e.mask) ≤ 5 = packed_length_32 e.mask c in
    let p = length-append (packed e.source) (packed e.entry ++ packed e.mask) in
    let q = length-append (packed e.entry) (packed e.mask) in
    omega (arith, p, q)

pub trail_append : (a b : List Event) → length (trail_bytes (a ++ b)) ≡ length (trail_bytes a) + length (trail_bytes b)
unfolding trail_bytes
trail_append [] b = omega arith
trail_append (e ∷ a) b =
    let i : length (trail_bytes (a ++ b)) ≡ length (trail_bytes a) + length (trail_bytes b) = trail_append a b in
    let p : length (event_bytes e ++ trail_bytes (a ++ b)) ≡ length (event_bytes e) + length (trail_bytes (a ++ b)) =
    length-append (event_bytes e) (trail_bytes (a ++ b)) in
    let q : length (event_bytes e ++ trail_bytes a) ≡ length (event_bytes e) + length (trail_bytes a) =
    length-append (event_bytes e) (trail_bytes a) in
    omega (arith, i, p, q)

-- ---- the entries of a SACL, one by one

module _ (l : List ℕ) (n at : ℕ) where
  -- the audit entry at a place
  abbrev pub found_spot : Spot
  found_spot =
      record {
        audits = true;
        flags = byte_at l (at + 1);
        mask = record { 0 = u32_at l (at + 4) };
        from = at + 8;
        to = sid_end l (at + 8);
        next = entry_end false l at;
      }

  pub audits_none : entry_end false l at ≡ 0 → audits_at l (suc n) at ≡ []
  unfolding audits_at spot_at
  audits_none h = rw (eq-eqb (entry_end false l at) 0 h)

  module _ (there : entry_end false l at ≡ 0 → ⊥) where
    pub audits_other : audits (byte_at l at) ≡ false →
        audits_at l (suc n) at ≡ audit_of l (other_spot (entry_end false l at)) ∷ audits_at l n (entry_end false l at)
    unfolding audits_at spot_at
    audits_other a = rw (ne_eqb (entry_end false l at) 0 there, a, ne_eqb (entry_end false l at) 0 there)

    pub audits_found : audits (byte_at l at) ≡ true →
        audits_at l (suc n) at ≡ audit_of l found_spot ∷ audits_at l n (entry_end false l at)
    unfolding audits_at spot_at
    audits_found a = rw (ne_eqb (entry_end false l at) 0 there, a, ne_eqb (entry_end false l at) 0 there)

-- an audit entry takes at least 16 bytes
pub audit_long : (l : List ℕ) (at : ℕ) → audits (byte_at l at) ≡ true → (entry_end false l at ≡ 0 → ⊥) → at + 16 ≤ entry_end false l at
audit_long l at a h =
    let j = judges_shallow (byte_at l at) ∙ a in
    let s = (sid_end_bounds l (at + 8) (judged_sid false l at j h)).0 in
    let f = judged_fits false l at j h in
    omega (arith, s, f)

-- ---- the events of a SACL

module _ (s : Sought) (ms : List Member) (h : Hits) (source : ℕ) (few : source < 16384) where
  -- an event, or none, before the others
  one_more : (k m : ℕ) (t : Bool) (r : List Event) → k < 16384 → m < 2 ^ 32 →
      length (trail_bytes (cond t (event source k m ∷ r) r)) ≤ 9 + length (trail_bytes r)
  unfolding trail_bytes
  one_more k m true r a b =
      let e : length (event_bytes (event source k m)) ≤ 9 = event_bytes_le (event source k m) few a b in
      let p = length-append (event_bytes (event source k m)) (trail_bytes r) in
      omega (arith, e, p)
  one_more k m false r a b = omega arith

  module _ (l : List ℕ) (bytes : T (are_bytes l)) (short : length l < 65536) where
    from_bound : (n k at : ℕ) → 4 * k + 8 ≤ at →
        16 * length (trail_bytes (events_from s ms h source k (audits_at l n at))) ≤ 9 * (length l - at)
    unfolding audits_at events_from trail_bytes fires
    from_bound zero k at i = omega arith
    from_bound (suc n) k at i =
        go (eqb (entry_end false l at) 0) refl (audits (byte_at l at)) refl (from_bound n (k + 1) (entry_end false l at))
      where
        rest : List Event
        rest = events_from s ms h source (k + 1) (audits_at l n (entry_end false l at))

        go : (z : Bool) → eqb (entry_end false l at) 0 ≡ z → (a : Bool) → audits (byte_at l at) ≡ a →
            (4 * (k + 1) + 8 ≤ entry_end false l at → 16 * length (trail_bytes rest) ≤ 9 * (length l - entry_end false l at)) →
            16 * length (trail_bytes (events_from s ms h source k (audits_at l (suc n) at))) ≤ 9 * (length l - at)
        go true e a f ih = rw (audits_none l n at (eqb-true _ _ e)) (omega arith)
        go false e false f ih =
            let there = eqb-false _ _ e in
            let b = entry_end_bounds false l at there in
            let r : 16 * length (trail_bytes rest) ≤ 9 * (length l - entry_end false l at) = ih (omega (arith, b.0)) in
            rw (audits_other l n at there f) (omega (arith, b.0, b.1, r))
        go false e true f ih =
            let there = eqb-false _ _ e in
            let b = entry_end_bounds false l at there in
            let w : at + 16 ≤ entry_end false l at = audit_long l at f there in
            let r : 16 * length (trail_bytes rest) ≤ 9 * (length l - entry_end false l at) = ih (omega (arith, b.0)) in
            let t = fires s ms h (audit_of l (found_spot l n at)) in
            let o = one_more k (u32_at l (at + 4)) t rest (omega (arith, b.1)) (u32_at_lt l (at + 4) bytes) in
            rw (audits_found l n at there f) (omega (arith, b.1, w, r, o))

    pub sacl_bound : 16 * length (trail_bytes (events_in s ms h source l)) ≤ 9 * length l
    unfolding audits_of
    sacl_bound = let b = from_bound (u16_at l 4) 0 8 (omega arith) in omega (arith, b)

-- ---- the events of all rules

module _ (s : Sought) (ms : List Member) (h : Hits) (p : List ℕ) (bytes : T (are_bytes p)) where
  rule_bound : (i at : ℕ) → i < 16384 → ((rule_at p at).next ≡ 0 → ⊥) →
      16 * length (trail_bytes (rule_events s ms h i (lists_of p (rule_at p at)))) + 9 * at ≤ 9 * (rule_at p at).next
  unfolding trail_bytes
  rule_bound i at few there = go (applies_to ms h (lists_of p (rule_at p at)))
    where
      sacl : List ℕ
      sacl = bytes_of p (rule_at p at).sacl

      go : (t : Bool) → 16 * length (trail_bytes (cond t (events_in s ms h i sacl) [])) + 9 * at ≤ 9 * (rule_at p at).next
      go true =
          let x : SaclAt p at (rule_at p at) = rule_sacl_at p at there in
          let b = bytes_part p (rule_at p at).sacl.from (rule_at p at).sacl.to bytes in
          let n : length sacl ≡ (rule_at p at).sacl.to - (rule_at p at).sacl.from =
          length_part p (rule_at p at).sacl.from (rule_at p at).sacl.to x.lies (omega (arith, x.before, x.inside)) in
          let o = sacl_bound s ms h i few sacl b (sacl_short sacl b x.shaped) in
          omega (arith, o, n, x.after, x.before)
      go false = let x : SaclAt p at (rule_at p at) = rule_sacl_at p at there in omega (arith, x.after, x.lies, x.before)

  pub rules_bound : (n i at : ℕ) → i + n ≤ 16384 →
      16 * length (trail_bytes (rules_events s ms h i (rules_at p n at))) ≤ 9 * (length p - at)
  unfolding rules_events rules_at trail_bytes
  rules_bound zero i at few = omega arith
  rules_bound (suc n) i at few = go (eqb (rule_at p at).next 0) refl (rules_bound n (i + 1) (rule_at p at).next (omega arith))
    where
      one : List Event
      one = rule_events s ms h i (lists_of p (rule_at p at))

      rest : List Event
      rest = rules_events s ms h (i + 1) (rules_at p n (rule_at p at).next)

      go : (z : Bool) → eqb (rule_at p at).next 0 ≡ z → 16 * length (trail_bytes rest) ≤ 9 * (length p - (rule_at p at).next) →
          16 * length
          (trail_bytes (rules_events s ms h i (cond z [] (lists_of p (rule_at p at) ∷ rules_at p n (rule_at p at).next))))
          ≤ 9 * (length p - at)
      go true e ih = omega arith
      go false e ih =
          let there = eqb-false _ _ e in
          let x : SaclAt p at (rule_at p at) = rule_sacl_at p at there in
          let o = rule_bound i at (omega arith) there in
          let a = trail_append one rest in
          omega (arith, o, a, ih, x.inside)
