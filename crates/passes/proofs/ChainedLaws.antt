-- What the chains of a crowd come to: a SID is found in the chain of its key exactly where it is among the crowd. In order: all seats of a
-- crowd, one after the other (chained_says); the crowd at a place of a listing (chains_say). One seat more is in LinkLaws.
-- Assumes nothing.
use Prim.Native.Nat.{ℕ, zero, suc, ◌+◌, ◌-◌, ◌<◌, ◌≤◌}
use mathlib.Core.Bool.{Bool, true, false, cond, ◌&&◌, ◌||◌, or-false}
use mathlib.Core.List.{List, ◌∷◌}
use mathlib.Core.Path.{◌≡◌, refl, sym, ap, ◌∙◌}
use native.Mathlib.Omega.{arith}
use borrow.Author.Tests.{eqb-true, eqb-false}
use lib.Dec.{eqb}
use lib.ListN.{length, get_or}
use Rattle.base.specs.Bytes.{u32_at, part, same}
use Rattle.sids.specs.Sid.{sid_end}
use Rattle.records.specs.Crowd.{Member, members_at, crowd_at}
use Rattle.passes.specs.Chains.{row, chain, shown_under, shown, Tables, tables, linked, chained, chains_of}
use Rattle.seats.specs.Key.{key_of}
use Rattle.passes.specs.Matching.{among}
use Rattle.seats.specs.Seats.{first_seat, seat_at, seated, from_seat}
use Rattle.seats.specs.declared.seats.Seat.{Seat}
use Rattle.passes.proofs.ChainsLaws.{chain_nought, among_shown}
use Rattle.passes.proofs.LinkLaws.{Seated, Holds, With, linked_holds}
use Rattle.passes.proofs.LinkSteps.{chained_none, chained_last, chained_more}
use Rattle.seats.proofs.SeatsLaws.{crowd_first, seats_more}

-- ---- all of them

seat_seated : (attrs : Bool) (s : List ℕ) (at : ℕ) → Seated s (seat_at attrs s at)
unfolding seat_at
seat_seated attrs s at = go (eqb (sid_end s at) 0) refl
  where
    go : (b : Bool) → eqb (sid_end s at) 0 ≡ b → Seated s (seat_at attrs s at)
    go true e = rw e (λ h. absurd (h refl))
    go false e = rw e (λ h. refl)

first_seated : (s : List ℕ) (at : ℕ) → Seated s (first_seat s at)
unfolding first_seat
first_seated s at = go (eqb (sid_end s at) 0) refl
  where
    go : (b : Bool) → eqb (sid_end s at) 0 ≡ b → Seated s (first_seat s at)
    go true e = rw e (λ h. absurd (h refl))
    go false e = rw e (λ h. refl)

-- what a crowd from a seat on says, after what was said before
abbrev Says : Bool → List ℕ → Tables → ℕ → ℕ → Seat → (Bool → List ℕ → Bool) → Type 0
Says attrs s t i n x f = (allow : Bool) (w : List ℕ) →
    among allow (shown_under (chained attrs s t i n x).heads (chained attrs s t i n x).seats s (key_of w)) w
    ≡ (among allow (from_seat attrs s n x) w || f allow w)

turned : (b r f : Bool) → (r || (b || f)) ≡ (cond b true r || f)
turned true true f = refl
turned true false f = refl
turned false r f = refl

chained_says : (attrs : Bool) (s : List ℕ) → length s ≤ 32768 → (m : ℕ) → m ≤ 512 → (n i : ℕ) (t : Tables) (x : Seat)
    (f : Bool → List ℕ → Bool) → Holds s m t i f → Seated s x → i + length (from_seat attrs s n x) ≤ m → Says attrs s t i n x f
unfolding among members_at
chained_says attrs s short m narrow zero i t x f o stands few allow w = go (eqb x.to 0) refl few
  where
    go : (b : Bool) → eqb x.to 0 ≡ b → i + length (from_seat attrs s 0 x) ≤ m →
        among allow (shown_under (chained attrs s t i 0 x).heads (chained attrs s t i 0 x).seats s (key_of w)) w
        ≡ (among allow (from_seat attrs s 0 x) w || f allow w)
    go true e l = rw (chained_none attrs s t i x 0 (eqb-true x.to 0 e), e) (o.says allow w)
    go false e l =
        let k = eqb-false x.to 0 e in
        let m1 : i + 1 ≤ m = rw e at l in
        rw (chained_last attrs s t i x 0 k (omega (arith, o.seats, m1)) refl, e)
        ((linked_holds s short m narrow t i f o (omega arith) x k stands).says allow w
        ∙ turned (same (part s x.from x.to) w && cond allow x.allows x.denies) false (f allow w))
chained_says attrs s short m narrow (suc n) i t x f o stands few allow w =
    go (λ u g h l. chained_says attrs s short m narrow n (i + 1) u (seat_at attrs s x.next) g h (seat_seated attrs s x.next) l allow w)
    (eqb x.to 0) refl few
  where
    y : Seat
    y = seat_at attrs s x.next

    go : ((u : Tables) (g : Bool → List ℕ → Bool) → Holds s m u (i + 1) g → i + 1 + length (from_seat attrs s n y) ≤ m →
        among allow (shown_under (chained attrs s u (i + 1) n y).heads (chained attrs s u (i + 1) n y).seats s (key_of w)) w
        ≡ (among allow (from_seat attrs s n y) w || g allow w)) →
        (b : Bool) → eqb x.to 0 ≡ b → i + length (from_seat attrs s (suc n) x) ≤ m →
        among allow (shown_under (chained attrs s t i (suc n) x).heads (chained attrs s t i (suc n) x).seats s (key_of w)) w
        ≡ (among allow (from_seat attrs s (suc n) x) w || f allow w)
    go rest true e l = rw (chained_none attrs s t i x (suc n) (eqb-true x.to 0 e), e) (o.says allow w)
    go rest false e l =
        let k = eqb-false x.to 0 e in
        let q : from_seat attrs s (suc n) x ≡ seated s x ∷ from_seat attrs s n y = seats_more attrs s x (suc n) n y k refl refl in
        let m1 : i + suc (length (from_seat attrs s n y)) ≤ m = rw q at l in
        rw (chained_more attrs s t i x (suc n) k (omega (arith, o.seats, m1)) n y refl refl, q)
        (rest (linked s t i x) (With s x f) (linked_holds s short m narrow t i f o (omega arith) x k stands) (omega arith)
        ∙ turned (same (part s x.from x.to) w && cond allow x.allows x.denies) (among allow (from_seat attrs s n y) w)
        (f allow w))

-- ---- the crowd at a place of a listing, in tables whose heads are clear

module _ (heads seats : List ℕ) (clear : (k : ℕ) → get_or heads k 0 ≡ 0) (many : length heads ≡ 512) (narrow : length seats ≤ 512) where
  clear_holds : (s : List ℕ) → Holds s (length seats) (tables heads seats) 1 (λ _ _. false)
  unfolding among row
  clear_holds s = record {
    heads = many;
    seats = refl;
    low = λ k. omega (arith, clear k);
    says = λ allow w.
        ap (λ (k : ℕ). among allow (chain seats s (length seats - 1) k) w) (clear (key_of w))
        ∙ ap (λ (l : List Member). among allow l w) (chain_nought seats s (length seats - 1));
    rows = λ allow w. refl;
  }

  pub chains_say : (attrs : Bool) (s : List ℕ) (at : ℕ) → length s ≤ 32768 → length (crowd_at attrs s at) < length seats →
      (t : Tables) → t ≡ chains_of attrs s at (tables heads seats) → (allow : Bool) (w : List ℕ) →
      among allow (shown t.heads t.seats s) w ≡ among allow (crowd_at attrs s at) w
  unfolding chains_of
  chains_say attrs s at short few t e allow w =
      let x = first_seat s at in
      let n = u32_at s x.to in
      let c : crowd_at attrs s at ≡ from_seat attrs s n x = crowd_first attrs s at in
      let l : 1 + length (from_seat attrs s n x) ≤ length seats = omega (arith, few, ap length c) in
      among_shown allow t.heads t.seats s w
      ∙ ap (λ (u : Tables). among allow (shown_under u.heads u.seats s (key_of w)) w) e
      ∙ chained_says attrs s short (length seats) narrow n 1 (tables heads seats) x (λ _ _. false) (clear_holds s) (first_seated s at) l
      allow w
      ∙ or-false (among allow (from_seat attrs s n x) w)
      ∙ ap (λ (ms : List Member). among allow ms w) (sym c)
