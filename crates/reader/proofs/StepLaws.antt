-- What stands at a place of a held list, and where a list ends. For `step_at`, `end` and `held`.
-- In order: a step at a place (step_none, step_some), what holds of one that shows an entry (Stands, step_stands), and how far it goes
-- (step_moves, step_fits, step_stays, step_inside), how the code answers it (step_shown, shown_some, shown_none); the place after the last entry (end_none, end_stop, end_more, end_left, EndLies,
-- end_lies), and what is held (held_is).
-- Not here: readings from a place to the end, ReadingLaws. Assumes nothing.
use Prim.Native.Nat.{ℕ, zero, suc, ◌+◌, ◌-◌, ◌<◌, ◌≤◌}
use mathlib.Core.Path.{◌≡◌, refl, ap, ◌∙◌}
use mathlib.Core.List.{List}
use mathlib.Core.Bool.{Bool, true, false, cond}
use native.Mathlib.Omega.{arith}
use lib.ListN.{length}
use lib.Dec.{eqb}
use borrow.Author.Tests.{eq-eqb, ne_eqb, eqb-true, eqb-false}
use Rattle.base.specs.Bytes.{u16_at}
use Rattle.std.specs.Prelude.{None, Some}
use Rattle.lists.specs.Acl.{ace_at, stands}
use Rattle.lists.specs.Descriptor.{part_in}
use Rattle.lists.specs.declared.acl.Ace.{Ace}
use Rattle.lists.proofs.SpareLaws.{ace_next, ace_bounds}
use Rattle.reader.specs.Reading.Step.{Shown, End}
use Rattle.reader.specs.Reading.{Step, end_from, held, step_at, shown, place_after, next_place}

-- ---- a step at a place

-- the entry that a step shows is the definition's at that place, and one stands there
pub record Stands (l : List ℕ) (at : ℕ) (a : Ace) : Type 0 where
  pub same : a ≡ ace_at l at
  pub some : (ace_at l at).next ≡ 0 → ⊥

module _ (l : List ℕ) (at : ℕ) where
  pub step_none : (ace_at l at).next ≡ 0 → step_at l at ≡ End
  unfolding step_at
  step_none e = rw (eq-eqb (ace_at l at).next 0 e)

  pub step_some : ((ace_at l at).next ≡ 0 → ⊥) → step_at l at ≡ Shown (ace_at l at)
  unfolding step_at
  step_some e = rw (ne_eqb (ace_at l at).next 0 e)

  pub step_stands : (a : Ace) → step_at l at ≡ Shown a → Stands l at a
  unfolding step_at
  step_stands a q = go (eqb (ace_at l at).next 0) refl q
    where
      go : (t : Bool) → eqb (ace_at l at).next 0 ≡ t → cond t End (Shown (ace_at l at)) ≡ Shown a → Stands l at a
      go true e q = let z : ◌≡◌ {A = ℕ} 0 1 = cc in absurd (omega arith)
      go false e q = let s : a ≡ ace_at l at = cc in record { same = s; some = eqb-false _ _ e }

  -- "size u16": a step goes to the place after the entry, by exactly the size that the entry's heading says
  pub step_moves : (a : Ace) → step_at l at ≡ Shown a → (next_place l at ≡ (ace_at l at).next) × (next_place l at ≡ at + u16_at l (at + 2))
  step_moves a q =
      let s : Stands l at a = step_stands a q in
      let e : next_place l at ≡ (ace_at l at).next = ap (place_after at) q ∙ ap (λ (x : Ace). x.next) s.same in
      (e, e ∙ ace_next l at s.some)

  -- "8 plus the SID's length or more": the SID ends inside its own entry
  pub step_fits : (a : Ace) → step_at l at ≡ Shown a → a.to ≤ a.next
  step_fits a q = let s : Stands l at a = step_stands a q in rw s.same (ace_bounds l at s.some).fits

  pub step_stays : step_at l at ≡ End → next_place l at ≡ at
  step_stays q = ap (place_after at) q

  -- a step goes on, and stays in the list
  pub step_inside : (a : Ace) → step_at l at ≡ Shown a → (at < a.next) × (a.next ≤ length l)
  step_inside a q =
      let s : Stands l at a = step_stands a q in
      rw s.same ((ace_bounds l at s.some).past, (ace_bounds l at s.some).inside)

-- the code's answer is the entry that stands there, and what it shows
pub step_shown : (l : List ℕ) (at : ℕ) → stands (ace_at l at) ≡ shown (step_at l at)
unfolding step_at
step_shown l at = go (eqb (ace_at l at).next 0)
  where
    go : (t : Bool) → cond t None (Some (ace_at l at)) ≡ shown (cond t End (Shown (ace_at l at)))
    go true = refl
    go false = refl

pub shown_some : (s : Step) (a : Ace) → Some a ≡ shown s → s ≡ Shown a
shown_some (Shown b) a q = cc
shown_some End a q = absurd (cc)

pub shown_none : (s : Step) → None ≡ shown s → s ≡ End
shown_none (Shown b) q = absurd (cc)
shown_none End q = refl

-- ---- the place after the last entry

module _ (l : List ℕ) (n p : ℕ) where
  pub end_none : n ≡ 0 → end_from l n p ≡ p
  unfolding end_from
  end_none e = rw e

  pub end_stop : (ace_at l p).next ≡ 0 → end_from l (suc n) p ≡ p
  unfolding end_from
  end_stop e = rw (eq-eqb (ace_at l p).next 0 e)

  pub end_more : ((ace_at l p).next ≡ 0 → ⊥) → end_from l (suc n) p ≡ end_from l n (ace_at l p).next
  unfolding end_from
  end_more e = rw (ne_eqb (ace_at l p).next 0 e)

-- k of m entries are passed, and there are more
pub end_left : (l : List ℕ) (m k p : ℕ) → k < m → end_from l (m - k) p ≡ end_from l (suc (m - (k + 1))) p
end_left l m k p h = ap (λ (n : ℕ). end_from l n p) (omega arith)

-- it lies at the place itself or behind it, and in the list
pub record EndLies (l : List ℕ) (n p : ℕ) : Type 0 where
  pub past : p ≤ end_from l n p
  pub inside : p ≤ length l → end_from l n p ≤ length l

pub end_lies : (l : List ℕ) (n p : ℕ) → EndLies l n p
end_lies l zero p =
    let e : end_from l 0 p ≡ p = end_none l 0 p refl in
    record { past = omega arith; inside = λ h. omega arith }
end_lies l (suc n) p = go (eqb (ace_at l p).next 0) refl (end_lies l n (ace_at l p).next)
  where
    go : (t : Bool) → eqb (ace_at l p).next 0 ≡ t → EndLies l n (ace_at l p).next → EndLies l (suc n) p
    go true e r =
        let s : end_from l (suc n) p ≡ p = end_stop l n p (eqb-true _ _ e) in
        record { past = omega arith; inside = λ h. omega arith }
    go false e r =
        let x : ((ace_at l p).next ≡ 0 → ⊥) = eqb-false _ _ e in
        let s : end_from l (suc n) p ≡ end_from l n (ace_at l p).next = end_more l n p x in
        let b0 : p < (ace_at l p).next = (ace_bounds l p x).past in
        let b1 : (ace_at l p).next ≤ length l = (ace_bounds l p x).inside in
        let r0 : (ace_at l p).next ≤ end_from l n (ace_at l p).next = r.past in
        let r1 : end_from l n (ace_at l p).next ≤ length l = r.inside b1 in
        record { past = omega arith; inside = λ h. omega arith }

-- a list up to there is what is held of it
pub held_is : (l : List ℕ) (e : ℕ) → e ≡ end_from l (u16_at l 4) 8 → part_in l 0 e ≡ held l
unfolding held
held_is l e q = ap (part_in l 0) q
