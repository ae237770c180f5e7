-- The walk over a SACL, from one entry that fires to the next. For `walk`.
-- In order: an entry as the code answers it (read-..); the events of the entries from a number on, by each step (events_over, events_stop,
-- events_other, events_passed, events_here); how many they are at most (events_short). Assumes nothing.
use Prim.Native.Nat.{ℕ, zero, suc, ◌+◌, ◌-◌, ◌<◌, ◌≤◌}
use mathlib.Core.Path.{◌≡◌, refl, sym, ap, ◌∙◌}
use mathlib.Core.List.{List, [], ◌∷◌}
use mathlib.Core.Bool.{Bool, true, false, cond}
use native.Mathlib.Omega.{arith}
use lib.Dec.{eqb}
use lib.ListN.{length}
use Rattle.std.specs.Prelude.{None, Some}
use Rattle.base.specs.Bytes.{u16_at}
use Rattle.records.specs.Crowd.{Member}
use Rattle.passes.specs.declared.matching.Hits.{Hits}
use Rattle.audit.specs.Spot.{Spot}
use Rattle.audit.specs.Events.{Audit, Event, event, spot_at, audit_of, audits_at, audits_of, fires, events_from, events_in}
use Rattle.audit.specs.Walking.{made_of, entry_of, read, said_in}
use Rattle.audit.specs.declared.entry.AuditEntry.{AuditEntry}
use Rattle.audit.specs.declared.entry.Entry.{Entry}
use Rattle.audit.specs.declared.firing.Sought.{Sought}

-- ---- an entry as the code answers it

pub read_none : (x : Spot) → None ≡ read x → eqb x.next 0 ≡ true
read_none x h = go (eqb x.next 0) refl h
  where
    go : (b : Bool) → eqb x.next 0 ≡ b → None ≡ cond b None (Some (entry_of x)) → eqb x.next 0 ≡ true
    go true e f = e
    go false e f = absurd (cc)

pub read_some : (e : Entry) (x : Spot) → Some e ≡ read x → (e ≡ entry_of x) × (eqb x.next 0 ≡ false)
read_some e x h = go (eqb x.next 0) refl h
  where
    go : (b : Bool) → eqb x.next 0 ≡ b → Some e ≡ cond b None (Some (entry_of x)) → (e ≡ entry_of x) × (eqb x.next 0 ≡ false)
    go true p f = absurd (cc)
    go false p f = (cc, p)

-- whether it is an audit entry, and what that says
made_none : (x : Spot) → cond x.audits (Some (made_of x)) None ≡ None → x.audits ≡ false
made_none x h = go x.audits refl h
  where
    go : (b : Bool) → x.audits ≡ b → cond b (Some (made_of x)) None ≡ None → x.audits ≡ false
    go true e f = absurd (cc)
    go false e f = e

made_some : (x : Spot) (a : AuditEntry) → cond x.audits (Some (made_of x)) None ≡ Some a → (x.audits ≡ true) × (a ≡ made_of x)
made_some x a h = go x.audits refl h
  where
    go : (b : Bool) → x.audits ≡ b → cond b (Some (made_of x)) None ≡ Some a → (x.audits ≡ true) × (a ≡ made_of x)
    go true e f = (e, cc)
    go false e f = absurd (cc)

-- ---- the events of the entries from a number on

module _ (s : Sought) (ms : List Member) (h : Hits) (source : ℕ) (l : List ℕ) where
  -- of n entries in all, those from number k on, which stands at a place
  abbrev pub From : ℕ → ℕ → ℕ → List Event
  From n k at = events_from s ms h source k (audits_at l (n - k) at)

  pub start : events_in s ms h source l ≡ From (u16_at l 4) 0 8
  unfolding audits_of
  start = ap (λ (n : ℕ). events_from s ms h source 0 (audits_at l n 8)) (omega arith)

  module _ (n k at : ℕ) where
    pub events_over : n ≤ k → From n k at ≡ []
    unfolding audits_at events_from
    events_over q = let z : n - k ≡ 0 = omega arith in rw z

    module _ (more : k < n) where
      pub events_stop : None ≡ read (spot_at l at) → From n k at ≡ []
      unfolding audits_at events_from
      events_stop e = let m : n - k ≡ suc (n - (k + 1)) = omega arith in rw (m, read_none _ e)

      module _ (e : Entry) (is : Some e ≡ read (spot_at l at)) where
        -- the entry that stands there does not fire, or does
        on : fires s ms h (audit_of l (spot_at l at)) ≡ false → From n k at ≡ From n (k + 1) e.next
        unfolding audits_at events_from
        on f =
            let m : n - k ≡ suc (n - (k + 1)) = omega arith in
            let p = read_some e _ is in
            rw (m, p.1, f, p.0)

        pub events_other : e.audit ≡ None → From n k at ≡ From n (k + 1) e.next
        unfolding fires
        events_other a =
            let p = read_some e _ is in
            let q = made_none (spot_at l at) (ap (λ (y : Entry). y.audit) (sym p.0) ∙ a) in
            on (rw q)

        module _ (x : AuditEntry) (a : e.audit ≡ Some x) where
          said : audit_of l (spot_at l at) ≡ said_in l x
          said =
              let p = read_some e _ is in
              let q = made_some (spot_at l at) x (ap (λ (y : Entry). y.audit) (sym p.0) ∙ a) in
              rw (q.0, q.1)

          pub events_passed : fires s ms h (said_in l x) ≡ false → From n k at ≡ From n (k + 1) e.next
          events_passed f = on (ap (fires s ms h) said ∙ f)

          pub events_here : fires s ms h (said_in l x) ≡ true → From n k at ≡ event source k x.mask.0 ∷ From n (k + 1) e.next
          unfolding audits_at events_from
          events_here f =
              let m : n - k ≡ suc (n - (k + 1)) = omega arith in
              let p = read_some e _ is in
              let q = made_some (spot_at l at) x (ap (λ (y : Entry). y.audit) (sym p.0) ∙ a) in
              rw (m, p.1, ap (fires s ms h) said ∙ f, p.0, q.1)

-- ---- how many they are at most

module _ (s : Sought) (ms : List Member) (h : Hits) (source : ℕ) (l : List ℕ) where
  audits_short : (n at : ℕ) → length (audits_at l n at) ≤ n
  unfolding audits_at
  audits_short zero at = omega arith
  audits_short (suc n) at = go (eqb (spot_at l at).next 0) (audits_short n (spot_at l at).next)
    where
      go : (b : Bool) → length (audits_at l n (spot_at l at).next) ≤ n →
          length (cond b [] (audit_of l (spot_at l at) ∷ audits_at l n (spot_at l at).next)) ≤ suc n
      go true k = omega arith
      go false k = omega arith

  from_short : (k : ℕ) (xs : List Audit) → length (events_from s ms h source k xs) ≤ length xs
  unfolding events_from
  from_short k [] = omega arith
  from_short k (a ∷ xs) = go (fires s ms h a) (from_short (k + 1) xs)
    where
      go : (b : Bool) → length (events_from s ms h source (k + 1) xs) ≤ length xs →
          length (cond b (event source k a.mask ∷ events_from s ms h source (k + 1) xs) (events_from s ms h source (k + 1) xs))
          ≤ suc (length xs)
      go true m = omega arith
      go false m = omega arith

  pub events_short : length (events_in s ms h source l) ≤ u16_at l 4
  unfolding audits_of
  events_short = omega (arith, from_short 0 (audits_at l (u16_at l 4) 8), audits_short (u16_at l 4) 8)
