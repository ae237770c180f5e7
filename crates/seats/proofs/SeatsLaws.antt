-- The seats of a listing are the members of its crowd. In order: a seat by what stands there, and as the code
-- answers it; the crowd from its first seat; the members
-- left after a seat; one turn of a walk from seat to seat.
-- Assumes nothing.
use Prim.Native.Nat.{ℕ, zero, suc, ◌+◌, ◌<◌, ◌≤◌}
use mathlib.Core.Bool.{Bool, true, false, cond}
use mathlib.Core.List.{List, [], ◌∷◌}
use mathlib.Core.Path.{◌≡◌, refl, sym, ap, ◌∙◌}
use native.Mathlib.Omega.{arith}
use borrow.Author.Tests.{ltb-true, eqb-true, eqb-false, le-ltb, eq-eqb, ne_eqb}
use lib.Dec.{ltb, eqb}
use lib.ListN.{length}
use Rattle.std.specs.Prelude.{None, Some}
use Rattle.base.specs.Bytes.{u32_at, part}
use Rattle.sids.proofs.SidLaws.{sid_end_short}
use Rattle.sids.specs.Sid.{sid_end}
use Rattle.records.specs.Crowd.{Member, plain, shown, members_at, crowd_at}
use Rattle.seats.specs.Seats.{allow_word, deny_word, no_seat, seat_found, onward, first_seat, seat_at, seated, from_seat}
use Rattle.seats.specs.declared.seats.Seat.{Seat}

-- ---- a seat

module _ (s : List ℕ) (at : ℕ) where
  pub first_seat_none : sid_end s at ≡ 0 → first_seat s at ≡ no_seat
  unfolding first_seat
  first_seat_none z = rw (eq-eqb (sid_end s at) 0 z)

  pub seat_at_none : (attrs : Bool) → sid_end s at ≡ 0 → seat_at attrs s at ≡ no_seat
  unfolding seat_at
  seat_at_none attrs z = rw (eq-eqb (sid_end s at) 0 z)

module _ (s : List ℕ) (at e : ℕ) (ends : e ≡ sid_end s at) (some : e ≡ 0 → ⊥) where
  pub first_seat_some : (n : ℕ) → n ≡ onward s e 4 →
      first_seat s at ≡ record { from = at; to = e; next = n; allows = true; denies = true }
  unfolding first_seat
  first_seat_some n p = rw (← ends, ne_eqb e 0 some, p)

  pub seat_at_plain : e ≤ length s → seat_at false s at ≡ record { from = at; to = e; next = e; allows = true; denies = true }
  unfolding seat_at
  seat_at_plain l =
      let h : length s < e + 0 → ⊥ = λ k. omega arith in
      let z : e + 0 ≡ e = omega arith in
      rw (← ends, ne_eqb e 0 some, z, le-ltb (length s) e l)

  pub seat_at_word : (n : ℕ) (x y : Bool) → n ≡ onward s e 4 → x ≡ allow_word (u32_at s e) → y ≡ deny_word (u32_at s e) →
      seat_at true s at ≡ record { from = at; to = e; next = n; allows = x; denies = y }
  unfolding seat_at
  seat_at_word n x y p q r = rw (← ends, ne_eqb e 0 some, p, q, r)

-- ---- a seat as the code answers it

pub no_seat_found : (x : Seat) → None ≡ seat_found x → x.to ≡ 0
no_seat_found x p = go (eqb x.to 0) refl p
  where
    go : (t : Bool) → eqb x.to 0 ≡ t → None ≡ cond t None (Some x) → x.to ≡ 0
    go true q p = eqb-true x.to 0 q
    go false q p = cc

-- a seat that was found is that of the definition, and stands somewhere
pub record SeatFound (x y : Seat) : Type 0 where
  pub is : x ≡ y
  pub there : x.to ≡ 0 → ⊥

pub some_seat_found : (x y : Seat) → Some x ≡ seat_found y → SeatFound x y
some_seat_found x y p = go (eqb y.to 0) refl p
  where
    go : (t : Bool) → eqb y.to 0 ≡ t → Some x ≡ cond t None (Some y) → SeatFound x y
    go true q p = cc
    go false q p =
        let i : x ≡ y = cc in
        record { is = i; there = λ z. eqb-false y.to 0 q (sym (ap (λ (v : Seat). v.to) i) ∙ z) }

-- ---- the members after a place past the end

members_out : (attrs : Bool) (s : List ℕ) (n at : ℕ) → length s < at + 8 → members_at attrs s n at ≡ []
unfolding members_at
members_out attrs s zero at h = refl
members_out attrs s (suc n) at h = rw (eq-eqb (sid_end s at) 0 (sid_end_short s at h))

members_onward : (attrs : Bool) (s : List ℕ) (n e w : ℕ) → members_at attrs s n (onward s e w) ≡ members_at attrs s n (e + w)
members_onward attrs s n e w = go (ltb (length s) (e + w)) refl
  where
    go : (b : Bool) → ltb (length s) (e + w) ≡ b → members_at attrs s n (cond b (length s) (e + w)) ≡ members_at attrs s n (e + w)
    go true p =
        members_out attrs s n (length s) (omega arith) ∙ sym (members_out attrs s n (e + w) (omega (arith, ltb-true (length s) (e + w) p)))
    go false p = refl

-- ---- the crowd, seat by seat

pub crowd_first : (attrs : Bool) (s : List ℕ) (at : ℕ) →
    crowd_at attrs s at ≡ from_seat attrs s (u32_at s (first_seat s at).to) (first_seat s at)
unfolding crowd_at first_seat
crowd_first attrs s at = go (eqb (sid_end s at) 0) refl
  where
    go : (b : Bool) → eqb (sid_end s at) 0 ≡ b → crowd_at attrs s at ≡ from_seat attrs s (u32_at s (first_seat s at).to) (first_seat s at)
    go true p = rw p
    go false p = simp p (ap (λ (l : List Member). plain (part s at (sid_end s at)) ∷ l)
        (sym (members_onward attrs s (u32_at s (sid_end s at)) (sid_end s at) 4)))

pub crowd_start : (attrs : Bool) (s : List ℕ) (at n : ℕ) (x : Seat) → x ≡ first_seat s at → n ≡ u32_at s x.to →
    crowd_at attrs s at ≡ from_seat attrs s n x
crowd_start attrs s at n x p q = rw (q, p) (crowd_first attrs s at)

pub members_next : (attrs : Bool) (s : List ℕ) (n at : ℕ) → members_at attrs s (suc n) at ≡ from_seat attrs s n (seat_at attrs s at)
unfolding members_at seat_at
members_next true s n at = go (eqb (sid_end s at) 0) refl
  where
    go : (b : Bool) → eqb (sid_end s at) 0 ≡ b → members_at true s (suc n) at ≡ from_seat true s n (seat_at true s at)
    go true p = rw p
    go false p = simp p (ap (λ (l : List Member). shown (part s at (sid_end s at)) (u32_at s (sid_end s at)) ∷ l)
        (sym (members_onward true s n (sid_end s at) 4)))
members_next false s n at = go (eqb (sid_end s at) 0) refl
  where
    go : (b : Bool) → eqb (sid_end s at) 0 ≡ b → members_at false s (suc n) at ≡ from_seat false s n (seat_at false s at)
    go true p = rw p
    go false p = simp p (ap (λ (l : List Member). plain (part s at (sid_end s at)) ∷ l) (sym (members_onward false s n (sid_end s at) 0)))

-- ---- one turn of a search

module _ (attrs : Bool) (s : List ℕ) (x : Seat) where
  pub seats_none : (n : ℕ) → x.to ≡ 0 → from_seat attrs s n x ≡ []
  seats_none n z = rw (eq-eqb x.to 0 z)

  pub seats_last : (n : ℕ) → (x.to ≡ 0 → ⊥) → n ≡ 0 → from_seat attrs s n x ≡ seated s x ∷ []
  unfolding members_at
  seats_last n k z = rw (ne_eqb x.to 0 k, z)

  pub seats_more : (n less : ℕ) (y : Seat) → (x.to ≡ 0 → ⊥) → n ≡ suc less → y ≡ seat_at attrs s x.next →
      from_seat attrs s n x ≡ seated s x ∷ from_seat attrs s less y
  seats_more n less y k z e = rw (ne_eqb x.to 0 k, z, e) (ap (λ (l : List Member). seated s x ∷ l) (members_next attrs s less x.next))
