-- Laws of the row of seats that a search goes down (specs: Chains): one turn (row_none, row_hit, row_more); four at once that have another
-- last word (row_four); what stands at other numbers is not read (row_frame). Assumes nothing.
use Prim.Native.Nat.{ℕ, zero, suc, ◌-◌, ◌<◌, ◌≤◌}
use mathlib.Core.Bool.{Bool, true, false, ◌||◌}
use mathlib.Core.List.{List}
use mathlib.Core.Path.{◌≡◌, refl, ap, ◌∙◌}
use native.Mathlib.Omega.{arith}
use lib.Dec.{eqb}
use lib.ListN.{get_or, set}
use lib.Seq.{get_or-set_other}
use Rattle.base.proofs.BoolLaws.{neither}
use Rattle.records.specs.Crowd.{Member}
use Rattle.passes.specs.Chains.{last_in, sits_in, joined, row}
use Rattle.seats.specs.Key.{last_of}
use Rattle.passes.specs.Matching.{among}
use Rattle.passes.proofs.SitsLaws.{sits_other, joined_hit, joined_miss}

module _ (seats s : List ℕ) where
  pub row_first : (n less x : ℕ) → n ≡ suc less → x ≡ get_or seats n 0 → row seats s n ≡ joined s x (row seats s less)
  unfolding row
  row_first n less x one here = rw (here, one)

  pub row_frame : (i c j : ℕ) → j < i → row (set seats i c) s j ≡ row seats s j
  unfolding row
  row_frame i c zero h = refl
  row_frame i c (suc j) h =
      let d : suc j ≡ i → ⊥ = λ e. omega arith in
      rw (get_or-set_other seats i (suc j) c 0 d, row_frame i c j (omega arith))

-- one number down
down : (k n : ℕ) → k < n → n - k ≡ suc (n - suc k)
down k n h = omega arith

one : (n : ℕ) → 0 < n → n ≡ suc (n - 1)
one n h = omega arith

by : (k n : ℕ) → 4 ≤ n → k < 4 → k < n
by k n h l = omega arith

module _ (allow : Bool) (seats s w : List ℕ) where
  abbrev Found : ℕ → Bool
  Found n = among allow (row seats s n) w

  pub row_none : (n : ℕ) → n ≡ 0 → Found n ≡ false
  unfolding row among
  row_none n z = rw z

  module _ (n less x : ℕ) (one : n ≡ suc less) (here : x ≡ get_or seats n 0) where
    pub row_hit : sits_in allow s x w ≡ true → Found n ≡ true
    row_hit e =
        ap (λ (l : List Member). among allow l w) (row_first seats s n less x one here) ∙ joined_hit allow s x w (row seats s less) e

    pub row_more : sits_in allow s x w ≡ false → Found n ≡ Found less
    row_more e =
        ap (λ (l : List Member). among allow l w) (row_first seats s n less x one here) ∙ joined_miss allow s x w (row seats s less) e

  -- the SID in the seat of a number has the last word
  abbrev Ends : ℕ → Bool
  Ends n = eqb (last_in (get_or seats n 0)) (last_of w)

  row_past : (n less : ℕ) → n ≡ suc less → Ends n ≡ false → Found n ≡ Found less
  row_past n less one e = row_more n less (get_or seats n 0) one refl (sits_other allow s (get_or seats n 0) w e)

  pub row_four : (n : ℕ) → 4 ≤ n → ((Ends n || Ends (n - 1)) || (Ends (n - 2) || Ends (n - 3))) ≡ false → Found n ≡ Found (n - 4)
  row_four n h e =
      let all = neither (Ends n || Ends (n - 1)) (Ends (n - 2) || Ends (n - 3)) e in
      let upper = neither (Ends n) (Ends (n - 1)) all.0 in
      let lower = neither (Ends (n - 2)) (Ends (n - 3)) all.1 in
      row_past n (n - 1) (one n (by 0 n h (omega arith))) upper.0
      ∙ row_past (n - 1) (n - 2) (down 1 n (by 1 n h (omega arith))) upper.1
      ∙ row_past (n - 2) (n - 3) (down 2 n (by 2 n h (omega arith))) lower.0
      ∙ row_past (n - 3) (n - 4) (down 3 n (by 3 n h (omega arith))) lower.1
