-- An entry of a SACL by each test of the code, for `entry_at`, and whether it fires, for `fires`.
-- In order: the entry at a place (spot-at-..), where its SID lies (spot_sid), as the code answers it (read_is), whether it fires (fires-..). Assumes nothing.
use Prim.Native.Nat.{ℕ, ◌+◌, ◌≤◌}
use mathlib.Core.Path.{◌≡◌, ◌∙◌}
use mathlib.Core.List.{List}
use mathlib.Core.Bool.{true, false}
use native.Mathlib.Omega.{arith}
use lib.ListN.{length}
use borrow.Author.Tests.{eq-eqb, ne_eqb}
use Rattle.std.specs.Prelude.{Some}
use Rattle.base.specs.Bytes.{byte_at, u32_at}
use Rattle.base.specs.Bits.{and}
use Rattle.sids.specs.Sid.{sid_end}
use Rattle.sids.proofs.SidLaws.{sid_end_bounds}
use Rattle.lists.specs.Acl.{audits, judges, entry_end}
use Rattle.lists.proofs.EntrySteps.{judged_sid}
use Rattle.lists.proofs.TypeLaws.{judges_shallow}
use Rattle.masks.specs.KindsAndMasks.{entry_mask}
use Rattle.records.specs.Crowd.{Member}
use Rattle.passes.specs.Matching.{matches}
use Rattle.passes.specs.declared.matching.Hits.{Hits}
use Rattle.audit.specs.Events.{Audit, other_spot, spot_at, flag_for, fires}
use Rattle.audit.specs.Spot.{Spot}
use Rattle.audit.specs.Walking.{entry_of, read}
use Rattle.audit.specs.declared.firing.Sought.{Sought}

-- ---- the entry at a place

module _ (l : List ℕ) (at : ℕ) where
  pub spot_at_none : entry_end false l at ≡ 0 → spot_at l at ≡ other_spot 0
  unfolding spot_at
  spot_at_none h = rw (eq-eqb (entry_end false l at) 0 h)

  -- from where the code found the entry's end
  module _ (e : ℕ) (ends : e ≡ entry_end false l at) (some : entry_end false l at ≡ 0 → ⊥) where
    pub spot_at_other : (byte_at l at ≡ 2 → ⊥) → other_spot e ≡ spot_at l at
    unfolding spot_at audits
    spot_at_other k = rw (ends, ne_eqb (entry_end false l at) 0 some, ne_eqb (byte_at l at) 2 k)

    module _ (two : byte_at l at ≡ 2) where
      pub spot_at_made : (m t : ℕ) → m ≡ u32_at l (at + 4) → t ≡ sid_end l (at + 8) →
          ◌≡◌
          {A = Spot}
          (record {
            audits = true;
            flags = byte_at l (at + 1);
            mask = record { 0 = m };
            from = at + 8;
            to = t;
            next = e;
          })
          (spot_at l at)
      unfolding spot_at audits
      spot_at_made m t p q = rw (p, q, ends, ne_eqb (entry_end false l at) 0 some, eq-eqb (byte_at l at) 2 two)

      -- an audit entry holds a SID
      pub spot_sid : (at + 8 ≤ sid_end l (at + 8)) × (sid_end l (at + 8) ≤ length l)
      unfolding audits
      spot_sid =
          let j : judges false (byte_at l at) ≡ true = judges_shallow (byte_at l at) ∙ eq-eqb (byte_at l at) 2 two in
          let b = sid_end_bounds l (at + 8) (judged_sid false l at j some) in
          (omega (arith, b.0), omega (arith, b.1))

-- an entry that stands there, as the code answers it
pub read_is : (x y : Spot) → x ≡ y → (x.next ≡ 0 → ⊥) → Some (entry_of x) ≡ read y
read_is x y e f = rw (← e, ne_eqb x.next 0 f)

-- ---- whether it fires

module _ (s : Sought) (ms : List Member) (h : Hits) (a : Audit) where
  module _ (audit : a.audits ≡ true) where
    pub fires_inherit : (and a.flags 0x08 ≡ 0 → ⊥) → fires s ms h a ≡ false
    unfolding fires
    fires_inherit k = rw (audit, ne_eqb (and a.flags 0x08) 0 k)

    -- from the flag that the code looks for
    module _ (own : and a.flags 0x08 ≡ 0) (f : ℕ) (is : f ≡ flag_for s.allowed) where
      pub fires_unflagged : and a.flags f ≡ 0 → fires s ms h a ≡ false
      unfolding fires
      fires_unflagged k = rw (audit, eq-eqb (and a.flags 0x08) 0 own, ← is, eq-eqb (and a.flags f) 0 k)

      -- and the mask that it mapped
      module _ (flagged : and a.flags f ≡ 0 → ⊥) (m : ℕ) (maps : m ≡ entry_mask s.kind a.mask) where
        pub fires_unasked : and m s.bits.0 ≡ 0 → fires s ms h a ≡ false
        unfolding fires
        fires_unasked k =
            rw (
              audit,
              eq-eqb (and a.flags 0x08) 0 own,
              ← is,
              ne_eqb (and a.flags f) 0 flagged,
              ← maps,
              eq-eqb (and m s.bits.0) 0 k,
            )

        pub fires_asked : (and m s.bits.0 ≡ 0 → ⊥) → fires s ms h a ≡ matches false ms h a.sid
        unfolding fires
        fires_asked k =
            rw (
              audit,
              eq-eqb (and a.flags 0x08) 0 own,
              ← is,
              ne_eqb (and a.flags f) 0 flagged,
              ← maps,
              ne_eqb (and m s.bits.0) 0 k,
            )
