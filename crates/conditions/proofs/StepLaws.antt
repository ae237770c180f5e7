-- Laws of one token: which it is, by the tests (step-..); and that a token takes a byte at least and a list lies inside (Past, step_past,
-- on_past). Assumes nothing.
use Prim.Native.Nat.{ℕ, ◌+◌, ◌<◌, ◌≤◌}
use mathlib.Core.Path.{◌≡◌, refl, ap}
use mathlib.Core.List.{List, [], ◌∷◌}
use mathlib.Core.Bool.{Bool, true, false, cond, ◌||◌}
use native.Mathlib.Omega.{arith}
use lib.ListN.{length}
use lib.Dec.{ltb, eqb}
use borrow.Author.Tests.{eq-eqb, ne_eqb, eqb-false}
use Rattle.base.specs.Bytes.{byte_at, part}
use Rattle.std.specs.Prelude.{Ok}
use Rattle.conditions.specs.Condition.{Item, Next, enclosed_end, literal_end, literals, asks, deepest, push, given, literal, composite}
use Rattle.conditions.specs.Condition.{answered, paired, negated, step_at}
use Rattle.conditions.specs.Condition.Item.{truth, sids}
use Rattle.conditions.specs.Condition.Next.{broken, foreign, on}
use Rattle.conditions.specs.Stack.{from_of, to_of, coded, step_of}
use Rattle.conditions.specs.Scanning.{Scan}
use Rattle.conditions.specs.Scanning.{Scan as scan}
use Rattle.conditions.specs.declared.stack.Stack.{Stack}
use Rattle.conditions.proofs.OperandLaws.{enclosed_bounds, literal_bounds}

-- ---- which token stands at a place

pub asks_some : (b : ℕ) → ((b ≡ 0x89 → ⊥) → (b ≡ 0x8b → ⊥) → (b ≡ 0x90 → ⊥) → b ≡ 0x92) → asks b ≡ true
asks_some b h = go (eqb b 0x89) refl (eqb b 0x8b) refl (eqb b 0x90) refl
  where
    go : (x : Bool) → eqb b 0x89 ≡ x → (y : Bool) → eqb b 0x8b ≡ y → (z : Bool) → eqb b 0x90 ≡ z → (x || y || z || eqb b 0x92) ≡ true
    go true p y q z r = refl
    go false p true q z r = refl
    go false p false q true r = refl
    go false p false q false r = eq-eqb b 0x92 (h (eqb-false _ _ p) (eqb-false _ _ q) (eqb-false _ _ r))

module _ (told : Bool) (s : List ℕ) (at : ℕ) (st : List Item) where
  pub step_literal : byte_at s at ≡ 0x51 → step_at told s at st ≡ literal s at st
  unfolding step_at
  step_literal h = rw h

  pub step_composite : byte_at s at ≡ 0x50 → step_at told s at st ≡ composite s at st
  unfolding step_at
  step_composite h = rw h

  pub step_both : byte_at s at ≡ 0xa0 → step_at told s at st ≡ paired true (at + 1) st
  unfolding step_at
  step_both h = rw h

  pub step_either : byte_at s at ≡ 0xa1 → step_at told s at st ≡ paired false (at + 1) st
  unfolding step_at
  step_either h = rw h

  pub step_not : byte_at s at ≡ 0xa2 → step_at told s at st ≡ negated (at + 1) st
  unfolding step_at
  step_not h = rw h

  module _ (l : byte_at s at ≡ 0x51 → ⊥) (c : byte_at s at ≡ 0x50 → ⊥) where
    pub step_asks : asks (byte_at s at) ≡ true → step_at told s at st ≡ answered told (at + 1) st
    unfolding step_at
    step_asks h = rw (ne_eqb (byte_at s at) 0x51 l, ne_eqb (byte_at s at) 0x50 c, h)

    pub step_foreign : (byte_at s at ≡ 0x89 → ⊥) → (byte_at s at ≡ 0x8b → ⊥) → (byte_at s at ≡ 0x90 → ⊥) → (byte_at s at ≡ 0x92 → ⊥) →
        (byte_at s at ≡ 0xa0 → ⊥) → (byte_at s at ≡ 0xa1 → ⊥) → (byte_at s at ≡ 0xa2 → ⊥) → step_at told s at st ≡ foreign
    unfolding step_at
    step_foreign m n o p x y z =
        rw (
          ne_eqb (byte_at s at) 0x51 l,
          ne_eqb (byte_at s at) 0x50 c,
          ne_eqb (byte_at s at) 0x89 m,
          ne_eqb (byte_at s at) 0x8b n,
          ne_eqb (byte_at s at) 0x90 o,
          ne_eqb (byte_at s at) 0x92 p,
          ne_eqb (byte_at s at) 0xa0 x,
          ne_eqb (byte_at s at) 0xa1 y,
          ne_eqb (byte_at s at) 0xa2 z,
        )

-- ---- a token takes a byte at least, and a list lies inside

-- an item's places
abbrev Lies : List ℕ → Item → Type 0
Lies s x = (from_of x ≤ to_of x) × (to_of x ≤ length s)

-- the place after lies past the token, and the latest operand lies inside
abbrev pub Past : List ℕ → ℕ → Next → Type 0
Past s at broken = Unit
Past s at foreign = Unit
Past s at (on p st) = (at < p) × (((coded st).from ≤ (coded st).to) × ((coded st).to ≤ length s))

module _ (s : List ℕ) (at : ℕ) where
  cond_past : (t : Bool) (x y : Next) → Past s at x → Past s at y → Past s at (cond t x y)
  cond_past true x y h k = h
  cond_past false x y h k = k

  push_past : (next : ℕ) (x : Item) (st : List Item) → at < next → Lies s x → Past s at (push next x st)
  unfolding push
  push_past next x st h k = cond_past (ltb (length st) deepest) (on next (x ∷ st)) broken (h, k) tt

  truth_lies : (b : Bool) → Lies s (truth b)
  truth_lies b = (omega arith, omega arith)

  literal_past : (st : List Item) → Past s at (literal s at st)
  unfolding literal
  literal_past st = go (eqb (literal_end s at) 0) refl
    where
      go : (t : Bool) → eqb (literal_end s at) 0 ≡ t → Past s at (cond t broken (push (literal_end s at) (sids at (literal_end s at)) st))
      go true e = tt
      go false e =
          let b : (at + 5 ≤ literal_end s at) × (literal_end s at ≤ length s) = literal_bounds s at (eqb-false _ _ e) in
          push_past (literal_end s at) (sids at (literal_end s at)) st (omega arith) (omega arith, omega arith)

  given_past : (v : Scan) (x : Next) → Past s at x → Past s at (given v x)
  given_past scan.Broken x h = tt
  given_past scan.Foreign x h = tt
  given_past scan.Plain x h = h

  composite_past : (st : List Item) → Past s at (composite s at st)
  unfolding composite
  composite_past st = go (eqb (enclosed_end s at) 0) refl
    where
      go : (t : Bool) → eqb (enclosed_end s at) 0 ≡ t →
          Past s at
          (cond t broken
          (given (literals (part s (at + 5) (enclosed_end s at))) (push (enclosed_end s at) (sids (at + 5) (enclosed_end s at)) st)))
      go true q = tt
      go false q =
          let b : (at + 5 ≤ enclosed_end s at) × (enclosed_end s at ≤ length s) = enclosed_bounds s at (eqb-false _ _ q) in
          given_past (literals (part s (at + 5) (enclosed_end s at))) (push (enclosed_end s at) (sids (at + 5) (enclosed_end s at)) st)
          (push_past (enclosed_end s at) (sids (at + 5) (enclosed_end s at)) st (omega arith) (omega arith, omega arith))

  answered_past : (told : Bool) (next : ℕ) (st : List Item) → at < next → Past s at (answered told next st)
  unfolding answered
  answered_past told next [] h = tt
  answered_past told next (truth b ∷ st) h = tt
  answered_past told next (sids a e ∷ st) h = push_past next (truth told) st h (truth_lies told)

  paired_past : (every : Bool) (next : ℕ) (st : List Item) → at < next → Past s at (paired every next st)
  unfolding paired
  paired_past every next [] h = tt
  paired_past every next (sids a e ∷ st) h = tt
  paired_past every next (truth b ∷ []) h = tt
  paired_past every next (truth b ∷ sids a e ∷ st) h = tt
  paired_past every next (truth b ∷ truth a ∷ st) h = push_past next _ st h (truth_lies true)

  negated_past : (next : ℕ) (st : List Item) → at < next → Past s at (negated next st)
  unfolding negated
  negated_past next [] h = tt
  negated_past next (sids a e ∷ st) h = tt
  negated_past next (truth b ∷ st) h = push_past next _ st h (truth_lies b)

  pub step_past : (told : Bool) (st : List Item) → Past s at (step_at told s at st)
  unfolding step_at
  step_past told st =
      cond_past (eqb (byte_at s at) 0x51) _ _ (literal_past st)
      (cond_past (eqb (byte_at s at) 0x50) _ _ (composite_past st)
      (cond_past (asks (byte_at s at)) _ _ (answered_past told (at + 1) st (omega arith))
      (cond_past (eqb (byte_at s at) 0xa0) _ _ (paired_past true (at + 1) st (omega arith))
      (cond_past (eqb (byte_at s at) 0xa1) _ _ (paired_past false (at + 1) st (omega arith))
      (cond_past (eqb (byte_at s at) 0xa2) _ _ (negated_past (at + 1) st (omega arith)) tt)))))

  pub on_past : (p : ℕ) (m : Stack) (x : Next) → Past s at x → Ok (p, m) ≡ step_of x →
      (at < p) × ((m.from ≤ m.to) × (m.to ≤ length s))
  on_past p m broken h e = absurd (cc)
  on_past p m foreign h e = absurd (cc)
  on_past p m (on q st) h e =
      let both : ◌≡◌ {A = ℕ × Stack} (p, m) (q, coded st) = cc in
      let y : p ≡ q = ap (λ (k : ℕ × Stack). k.0) both in
      let z : m ≡ coded st = ap (λ (k : ℕ × Stack). k.1) both in
      let f : m.from ≡ (coded st).from = ap (λ (k : Stack). k.from) z in
      let t : m.to ≡ (coded st).to = ap (λ (k : Stack). k.to) z in
      (omega arith, (omega arith, omega arith))
