-- Readings from a place to the end, and readers.
-- In order: a list up to a place has the entries that the list has there (front_stop, front_step, front_entry); a reading from a place
-- (read_end, read_more, read_left); what is held of a list (held_inside, held_short), and m steps of a reader that was opened on it give its
-- first m entries (read_any), a long enough reading all of them (read_all_lem, read_plain); a reader is its list and its place (reader_same).
-- Assumes nothing.
use Prim.Native.Nat.{ℕ, zero, suc, ◌+◌, ◌-◌, ◌<◌, ◌≤◌}
use mathlib.Core.Path.{◌≡◌, refl, sym, ap, ap₂, ◌∙◌}
use mathlib.Core.List.{List, [], ◌∷◌}
use mathlib.Core.Bool.{Bool, true, false}
use native.Mathlib.Omega.{arith}
use lib.ListN.{length, take}
use lib.Seq.{take_all, take-nil}
use lib.Dec.{eqb, ltb}
use borrow.Author.Tests.{eqb-true, eqb-false, ltb-true, ltb-false}
use Rattle.base.specs.Bytes.{byte_at, u16_at, part}
use Rattle.base.proofs.BytesLaws.{length_part, part_short}
use Rattle.lists.specs.Acl.{Entry, ace_at, entry_of, entries_at, entries_of, scan_of}
use Rattle.lists.specs.Spare.{Agree, read_to}
use Rattle.lists.specs.declared.acl.Ace.{Ace}
use Rattle.conditions.specs.Scanning.Scan.{Plain}
use Rattle.base.proofs.PartLaws.{byte_of_part}
use Rattle.lists.proofs.DescriptorSteps.{part_in_past, part_in_inside}
use Rattle.lists.proofs.AclLaws.{entries_stop, entries_more, entries_short, plain_reads_all}
use Rattle.lists.proofs.SpareLaws.{ace_bounds, ace_past, read_fits}
use Rattle.lists.proofs.AlikeLaws.{ace_alike, entry_alike}
use Rattle.reader.specs.declared.Entries.{Entries}
use Rattle.reader.specs.Reading.Step.{Shown, End}
use Rattle.reader.specs.Reading.{end_from, held, step_at, read_all}
use Rattle.reader.proofs.StepLaws.{step_none, step_some, end_none, end_stop, end_more, EndLies, end_lies}

-- ---- a list up to a place, and what stands there

module _ (l : List ℕ) (e at : ℕ) where
  -- nothing stands at the end
  front_stop : e ≤ at → step_at (part l 0 e) at ≡ End
  front_stop h =
      let n : length (part l 0 e) ≤ e = part_short l e in
      step_none (part l 0 e) at (ace_past (part l 0 e) at (omega arith))

  module _ (h : (ace_at l at).next ≡ 0 → ⊥) (k : (ace_at l at).next ≤ e) (i : e ≤ length l) where
    front_agrees : Agree l (part l 0 e) at (read_to (ace_at l at))
    front_agrees j x y =
        let f : read_to (ace_at l at) ≤ (ace_at l at).next = read_fits l at h in
        let z : 0 + j ≡ j = omega arith in
        byte_of_part l 0 e j (omega arith) ∙ ap (byte_at l) z

    front_room : (ace_at l at).next ≤ length (part l 0 e)
    front_room = let n : length (part l 0 e) ≡ e - 0 = length_part l 0 e (omega arith) i in omega arith

    -- an entry that ends there, or before, stands in it as it does in the list
    front_step : step_at (part l 0 e) at ≡ Shown (ace_at l at)
    front_step =
        let a : ace_at (part l 0 e) at ≡ ace_at l at = ace_alike l (part l 0 e) at h front_agrees front_room in
        step_some (part l 0 e) at (λ z. h (ap (λ (x : Ace). x.next) (sym a) ∙ z)) ∙ ap Shown a

    front_entry : entry_of (part l 0 e) (ace_at l at) ≡ entry_of l (ace_at l at)
    front_entry = entry_alike l (part l 0 e) at h front_agrees front_room

-- ---- reading from a place

-- a step at the end gives nothing, and one at an entry the entry and what follows it
module _ (l : List ℕ) (n at : ℕ) where
  read_end : step_at l at ≡ End → read_all l n at ≡ []
  unfolding read_all
  read_end q = go n
    where
      go : (n : ℕ) → read_all l n at ≡ []
      go zero = refl
      go (suc n) = rw q

  read_more : (a : Ace) → step_at l at ≡ Shown a → read_all l (suc n) at ≡ entry_of l a ∷ read_all l n a.next
  unfolding read_all
  read_more a q = rw q

-- m steps from a place, in a list up to where n entries from there end, give the first m of these
read_left : (l : List ℕ) (e n m at : ℕ) → e ≡ end_from l n at → read_all (part l 0 e) m at ≡ take m (entries_at l n at)
unfolding read_all entries_at
read_left l e n zero at q = refl
read_left l e zero (suc m) at q =
    let s : end_from l 0 at ≡ at = end_none l 0 at refl in
    read_end (part l 0 e) (suc m) at (front_stop l e at (omega arith))
read_left l e (suc n) (suc m) at q = go (eqb (ace_at l at).next 0) refl (read_left l e n m (ace_at l at).next)
  where
    go : (t : Bool) → eqb (ace_at l at).next 0 ≡ t →
        (e ≡ end_from l n (ace_at l at).next → read_all (part l 0 e) m (ace_at l at).next ≡ take m (entries_at l n (ace_at l at).next)) →
        read_all (part l 0 e) (suc m) at ≡ take (suc m) (entries_at l (suc n) at)
    go true t r =
        let x : (ace_at l at).next ≡ 0 = eqb-true _ _ t in
        let s : end_from l (suc n) at ≡ at = end_stop l n at x in
        read_end (part l 0 e) (suc m) at (front_stop l e at (omega arith)) ∙ sym (ap (take (suc m)) (entries_stop l n at x))
    go false t r =
        let x : ((ace_at l at).next ≡ 0 → ⊥) = eqb-false _ _ t in
        let s : end_from l (suc n) at ≡ end_from l n (ace_at l at).next = end_more l n at x in
        let d : EndLies l n (ace_at l at).next = end_lies l n (ace_at l at).next in
        let k : (ace_at l at).next ≤ e = omega (arith, d.past) in
        let i : e ≤ length l = omega (arith, d.inside (ace_bounds l at x).inside) in
        read_more (part l 0 e) m at (ace_at l at) (front_step l e at x k i)
        ∙ ap₂ (λ (y : Entry) (z : List Entry). y ∷ z) (front_entry l e at x k i) (r (q ∙ s))
        ∙ sym (ap (take (suc m)) (entries_more l n at x))

-- ---- reading an opened list

-- what is held, by whether the list has room for its heading
held_inside : (l : List ℕ) → 8 ≤ length l → held l ≡ part l 0 (end_from l (u16_at l 4) 8)
unfolding held
held_inside l h = part_in_inside l 0 _ (omega arith) ((end_lies l (u16_at l 4) 8).inside h)

held_short : (l : List ℕ) → length l < 8 → held l ≡ []
unfolding held
held_short l h =
    let d : EndLies l (u16_at l 4) 8 = end_lies l (u16_at l 4) 8 in
    part_in_past l 0 _ (omega arith) (omega (arith, d.past))

short_entries : (l : List ℕ) → length l < 8 → entries_of l ≡ []
unfolding entries_of entries_at
short_entries l h = go (u16_at l 4)
  where
    go : (n : ℕ) → entries_at l n 8 ≡ []
    go zero = refl
    go (suc n) = entries_stop l n 8 (ace_past l 8 (omega arith))

-- m steps of a reader give the first m entries of the list that it was opened on, in stored order, for every m
pub read_any : (l : List ℕ) (m : ℕ) → read_all (held l) m 8 ≡ take m (entries_of l)
unfolding entries_of
read_any l m = go (ltb (length l) 8) refl
  where
    go : (t : Bool) → ltb (length l) 8 ≡ t → read_all (held l) m 8 ≡ take m (entries_at l (u16_at l 4) 8)
    go true t =
        let s : length l < 8 = ltb-true _ _ t in
        ap (λ (x : List ℕ). read_all x m 8) (held_short l s) ∙ read_end [] m 8 (step_none [] 8 (ace_past [] 8 (omega arith)))
        ∙ sym (ap (take m) (short_entries l s) ∙ take-nil m)
    go false t =
        ap (λ (x : List ℕ). read_all x m 8) (held_inside l (ltb-false _ _ t)) ∙ read_left l _ (u16_at l 4) m 8 refl

-- from the list's count on they are all of them
pub read_all_lem : (l : List ℕ) (m : ℕ) → u16_at l 4 ≤ m → read_all (held l) m 8 ≡ entries_of l
read_all_lem l m h = let n : length (entries_of l) ≤ u16_at l 4 = entries_short l in read_any l m ∙ take_all m (entries_of l) (omega arith)

-- of an accepted list as many as its count says
pub read_plain : (l : List ℕ) (m : ℕ) → scan_of true l ≡ Plain → u16_at l 4 ≤ m → length (read_all (held l) m 8) ≡ u16_at l 4
read_plain l m p h = ap length (read_all_lem l m h) ∙ plain_reads_all l p

-- ---- readers

-- two readers of the same list at the same place are equal
pub reader_same : (r q : Entries) → r.list ≡ q.list → r.at ≡ q.at → r ≡ q
reader_same r q e f = λ i. record { list = e i; at = f i }
