-- Laws of the operands in a word of two bits each. In order: bounds (word_lt, word_ge), one operand more (push_broken, push_on); the
-- operators, by what the lowest digits stand for (latest, negated-.., paired-.., answered-..), and the end (ended-..). Each goes by the cases
-- of the operands. Assumes nothing.
use Prim.Native.Nat.{ℕ, suc, ◌+◌, ◌*◌, ◌/◌, ◌%◌, ◌^◌, ◌<◌, ◌≤◌}
use mathlib.Core.Path.{◌≡◌, refl, sym, ap, ◌∙◌}
use mathlib.Core.List.{List, [], ◌∷◌}
use mathlib.Core.Bool.{Bool, true, false, cond, not, ◌&&◌, ◌||◌}
use native.Mathlib.Nat.{pow-suc, pow-le-pow_right}
use native.Mathlib.Omega.{arith}
use lib.ListN.{length}
use lib.Dec.{ltb}
use borrow.Author.Tests.{ltb-true, ltb-false, eq-eqb, ne_eqb}
use Rattle.std.specs.Prelude.{Some, Result, Ok, Err}
use Rattle.conditions.specs.Condition.{Item, Next, enclosed_end, literal_end, literals, literal, composite, given, deepest, push, negated}
use Rattle.conditions.specs.Condition.{paired, answered, ended, told_by}
use Rattle.base.specs.Bytes.{part, found}
use Rattle.conditions.specs.Condition.Item.{truth, sids}
use Rattle.conditions.specs.Condition.Next.{broken, on}
use Rattle.conditions.specs.Scanning.{Scan, scan_result}
use Rattle.conditions.specs.Scanning.{Scan as scan, Outcome as outcome}
use Rattle.conditions.specs.Stack.{digit, word_of, coded, step_of, truth_in, Steps}
use Rattle.conditions.specs.declared.fault.Fault.{Fault}
use Rattle.conditions.specs.declared.fault.Fault.TheVariants as fault
use Rattle.conditions.specs.declared.stack.Stack.{Stack}
use Rattle.base.proofs.FoundLaws.{place_found}

-- ---- bounds

pub digit_some : (x : Item) → (1 ≤ digit x) × (digit x ≤ 3)
digit_some (truth false) = (omega arith, omega arith)
digit_some (truth true) = (omega arith, omega arith)
digit_some (sids a e) = (omega arith, omega arith)

pub word_lt : (st : List Item) → word_of st < 4 ^ length st
word_lt [] = omega arith
word_lt (x ∷ st) =
    let p : 4 ^ suc (length st) ≡ 4 ^ length st * 4 = pow-suc 4 (length st) in
    let d = digit_some x in
    omega (arith, word_lt st, p, d.0, d.1)

pub word_ge : (st : List Item) → 4 ^ length st ≤ 3 * word_of st + 1
word_ge [] = omega arith
word_ge (x ∷ st) =
    let p : 4 ^ suc (length st) ≡ 4 ^ length st * 4 = pow-suc 4 (length st) in
    let d = digit_some x in
    omega (arith, word_ge st, p, d.0, d.1)

-- ---- one operand more

module _ (next : ℕ) (x : Item) (st : List Item) where
  pub push_broken : 0x3fffffffffffffff < word_of st → push next x st ≡ broken
  unfolding push
  push_broken h = go (ltb (length st) deepest) refl
    where
      go : (t : Bool) → ltb (length st) deepest ≡ t → cond t (on next (x ∷ st)) broken ≡ broken
      go false e = refl
      go true e =
          let l : length st < deepest = ltb-true _ _ e in
          let p : 4 ^ length st ≤ 4 ^ 31 = pow-le-pow_right {n = 4} (omega arith) {i = length st} {j = 31} (omega arith) in
          absurd (omega (arith, word_lt st))

  pub push_on : word_of st ≤ 0x3fffffffffffffff → push next x st ≡ on next (x ∷ st)
  unfolding push
  push_on h = go (ltb (length st) deepest) refl
    where
      go : (t : Bool) → ltb (length st) deepest ≡ t → cond t (on next (x ∷ st)) broken ≡ on next (x ∷ st)
      go true e = refl
      go false e =
          let l : deepest ≤ length st = ltb-false _ _ e in
          let p : 4 ^ 32 ≤ 4 ^ length st = pow-le-pow_right {n = 4} (omega arith) {i = 32} {j = length st} (omega arith) in
          absurd (omega (arith, word_ge st))

-- ---- the operands

module _ (s : List ℕ) (at : ℕ) (st : List Item) where
  pub literal_broken : literal_end s at ≡ 0 → literal s at st ≡ broken
  unfolding literal
  literal_broken h = rw (eq-eqb (literal_end s at) 0 h)

  pub literal_push : (e : ℕ) → e ≡ literal_end s at → (e ≡ 0 → ⊥) → literal s at st ≡ push e (sids at e) st
  unfolding literal
  literal_push e q h = rw (q, ne_eqb (literal_end s at) 0 (λ z. h (q ∙ z)))

  pub composite_broken : enclosed_end s at ≡ 0 → composite s at st ≡ broken
  unfolding composite
  composite_broken h = rw (eq-eqb (enclosed_end s at) 0 h)

  pub composite_given : (e : ℕ) → e ≡ enclosed_end s at → (e ≡ 0 → ⊥) →
      composite s at st ≡ given (literals (part s (at + 5) e)) (push e (sids (at + 5) e) st)
  unfolding composite
  composite_given e q h = rw (q, ne_eqb (enclosed_end s at) 0 (λ z. h (q ∙ z)))

given_fault : (v : Scan) (x : Next) (f : Fault) → Err f ≡ scan_result v → Err f ≡ step_of (given v x)
given_fault scan.Broken x f q = let same : f ≡ fault.Broken = cc in ap (λ (e : Fault). Err e) same
given_fault scan.Foreign x f q = let same : f ≡ fault.Foreign = cc in ap (λ (e : Fault). Err e) same
given_fault scan.Plain x f q = absurd (cc)

given_plain : (v : Scan) (x : Next) (u : Unit) → Ok u ≡ scan_result v → step_of x ≡ step_of (given v x)
given_plain scan.Broken x u q = absurd (cc)
given_plain scan.Foreign x u q = absurd (cc)
given_plain scan.Plain x u q = refl

module _ (s : List ℕ) (at e : ℕ) (q : Some e ≡ found (enclosed_end s at)) (st : List Item) where
  composite_is : step_of (composite s at st) ≡ step_of (given (literals (part s (at + 5) e)) (push e (sids (at + 5) e) st))
  composite_is =
      let k = place_found (enclosed_end s at) e q in
      ap step_of (composite_given s at st e (sym k.is) k.there)

  pub composite_fault : (f : Fault) → Err f ≡ scan_result (literals (part s (at + 5) e)) → Err f ≡ step_of (composite s at st)
  composite_fault f h =
      given_fault (literals (part s (at + 5) e)) (push e (sids (at + 5) e) st) f h ∙ sym composite_is

  pub composite_plain : (u : Unit) → Ok u ≡ scan_result (literals (part s (at + 5) e)) → step_of (push e (sids (at + 5) e) st) ≡ step_of (composite s at st)
  composite_plain u h = given_plain (literals (part s (at + 5) e)) (push e (sids (at + 5) e) st) u h ∙ sym composite_is

-- ---- the operators

-- the operands under the latest
pub rest_is : (x : Item) (st : List Item) (word : ℕ) → word ≡ word_of (x ∷ st) → word / 4 ≡ word_of st
rest_is x st word q = let d = digit_some x in omega (arith, d.0, d.1)

-- the truth that stands latest, or none
abbrev latest : List Item → Result Bool Fault
latest [] = Err fault.Broken
latest (sids a e ∷ st) = Err fault.Broken
latest (truth b ∷ st) = Ok b

latest_is : (st : List Item) (word : ℕ) → word ≡ word_of st → truth_in word ≡ latest st
latest_is [] word q = ap truth_in q
latest_is (sids a e ∷ st) word q = rw (ne_eqb (word % 4) 1 (λ k. omega arith), ne_eqb (word % 4) 2 (λ k. omega arith))
latest_is (truth false ∷ st) word q = rw (eq-eqb (word % 4) 1 (omega arith))
latest_is (truth true ∷ st) word q = rw (ne_eqb (word % 4) 1 (λ k. omega arith), eq-eqb (word % 4) 2 (omega arith))

broken_is : (e : Fault) → ◌≡◌ {A = Result Bool Fault} (Err e) (Err fault.Broken) → ◌≡◌ {A = Result (ℕ × Stack) Fault} (Err e) (Err fault.Broken)
broken_is e h = let same : e ≡ fault.Broken = cc in ap (λ (x : Fault). Err x) same

module _ (word next : ℕ) where
  pub negated_fault : (e : Fault) → Err e ≡ truth_in word → Steps word (negated next) (Err e)
  unfolding negated
  negated_fault e h [] q = broken_is e (h ∙ latest_is [] word q)
  negated_fault e h (sids a f ∷ st) q = broken_is e (h ∙ latest_is (sids a f ∷ st) word q)
  negated_fault e h (truth b ∷ st) q = let z = h ∙ latest_is (truth b ∷ st) word q in absurd (cc)

  pub negated_truth : (b : Bool) (r : Result (ℕ × Stack) Fault) → Ok b ≡ truth_in word → Steps (word / 4) (push next (truth (not b))) r →
      Steps word (negated next) r
  unfolding negated
  negated_truth b r h f [] q = let z = h ∙ latest_is [] word q in absurd (cc)
  negated_truth b r h f (sids a e ∷ st) q = let z = h ∙ latest_is (sids a e ∷ st) word q in absurd (cc)
  negated_truth b r h f (truth t ∷ st) q =
      let z = h ∙ latest_is (truth t ∷ st) word q in
      let same : b ≡ t = cc in
      f st (rest_is (truth t) st word q) ∙ ap (λ (x : Bool). step_of (push next (truth (not x)) st)) same

module _ (every : Bool) (word next : ℕ) where
  pub paired_first : (e : Fault) → Err e ≡ truth_in word → Steps word (paired every next) (Err e)
  unfolding paired
  paired_first e h [] q = broken_is e (h ∙ latest_is [] word q)
  paired_first e h (sids a f ∷ st) q = broken_is e (h ∙ latest_is (sids a f ∷ st) word q)
  paired_first e h (truth b ∷ st) q = let z = h ∙ latest_is (truth b ∷ st) word q in absurd (cc)

  pub paired_second : (e : Fault) (b : Bool) → Ok b ≡ truth_in word → Err e ≡ truth_in (word / 4) → Steps word (paired every next) (Err e)
  unfolding paired
  paired_second e b h k [] q = let z = h ∙ latest_is [] word q in absurd (cc)
  paired_second e b h k (sids a f ∷ st) q = let z = h ∙ latest_is (sids a f ∷ st) word q in absurd (cc)
  paired_second e b h k (truth t ∷ []) q = broken_is e (k ∙ latest_is [] (word / 4) (rest_is (truth t) [] word q))
  paired_second e b h k (truth t ∷ sids a f ∷ st) q =
      broken_is e (k ∙ latest_is (sids a f ∷ st) (word / 4) (rest_is (truth t) (sids a f ∷ st) word q))
  paired_second e b h k (truth t ∷ truth u ∷ st) q =
      let z = k ∙ latest_is (truth u ∷ st) (word / 4) (rest_is (truth t) (truth u ∷ st) word q) in absurd (cc)

  pub paired_truths : (b a : Bool) (r : Result (ℕ × Stack) Fault) → Ok b ≡ truth_in word → Ok a ≡ truth_in (word / 4) →
      Steps (word / 16) (push next (truth (cond every (a && b) (a || b)))) r → Steps word (paired every next) r
  unfolding paired
  paired_truths b a r h k f [] q = let z = h ∙ latest_is [] word q in absurd (cc)
  paired_truths b a r h k f (sids i e ∷ st) q = let z = h ∙ latest_is (sids i e ∷ st) word q in absurd (cc)
  paired_truths b a r h k f (truth t ∷ []) q =
      let z = k ∙ latest_is [] (word / 4) (rest_is (truth t) [] word q) in absurd (cc)
  paired_truths b a r h k f (truth t ∷ sids i e ∷ st) q =
      let z = k ∙ latest_is (sids i e ∷ st) (word / 4) (rest_is (truth t) (sids i e ∷ st) word q) in absurd (cc)
  paired_truths b a r h k f (truth t ∷ truth u ∷ st) q =
      let under = rest_is (truth t) (truth u ∷ st) word q in
      let y = h ∙ latest_is (truth t ∷ truth u ∷ st) word q in
      let z = k ∙ latest_is (truth u ∷ st) (word / 4) under in
      let two : b ≡ t = cc in
      let one : a ≡ u = cc in
      let deep : word / 4 / 4 ≡ word_of st = rest_is (truth u) st (word / 4) under in
      f st (omega arith)
      ∙ ap (λ (x : Bool). step_of (push next (truth (cond every (a && x) (a || x))) st)) two
      ∙ ap (λ (x : Bool). step_of (push next (truth (cond every (x && t) (x || t))) st)) one

pub answered_other : (told : Bool) (next : ℕ) (st : List Item) → (word_of st % 4 ≡ 3 → ⊥) → answered told next st ≡ broken
unfolding answered
answered_other told next [] h = refl
answered_other told next (truth b ∷ st) h = refl
answered_other told next (sids a e ∷ st) h = absurd (h (omega arith))

-- the word of the whole stack
pub word_in : (m : Stack) (st : List Item) → m ≡ coded st → m.word ≡ word_of st
word_in m [] e = ap (λ (x : Stack). x.word) e
word_in m (x ∷ st) e = ap (λ (x : Stack). x.word) e

pub answered_list : (tell : ℕ → List ℕ → Bool) (s : List ℕ) (b next : ℕ) (m : Stack) (t : Bool) (r : Result (ℕ × Stack) Fault) →
    t ≡ tell b (part s m.from m.to) → Steps (m.word / 4) (push next (truth t)) r → m.word % 4 ≡ 3 → (st : List Item) → m ≡ coded st →
    r ≡ step_of (answered (told_by tell s b st) next st)
unfolding answered told_by
answered_list tell s b next m t r g f h [] q = let w = word_in m [] q in absurd (omega arith)
answered_list tell s b next m t r g f h (truth false ∷ st) q = let w = word_in m (truth false ∷ st) q in absurd (omega arith)
answered_list tell s b next m t r g f h (truth true ∷ st) q = let w = word_in m (truth true ∷ st) q in absurd (omega arith)
answered_list tell s b next m t r g f h (sids a e ∷ st) q =
    f st (rest_is (sids a e) st m.word (word_in m (sids a e ∷ st) q))
    ∙ ap (λ (x : Bool). step_of (push next (truth x) st)) (g ∙ ap (λ (k : Stack). tell b (part s k.from k.to)) q)

-- ---- the end

pub ended_false : (st : List Item) → word_of st ≡ 1 → ended st ≡ outcome.Says false
unfolding ended
ended_false [] h = absurd (omega arith)
ended_false (sids a e ∷ st) h = absurd (omega arith)
ended_false (truth true ∷ st) h = absurd (omega arith)
ended_false (truth false ∷ []) h = refl
ended_false (truth false ∷ x ∷ st) h = let d = digit_some x in absurd (omega (arith, d.0))

pub ended_true : (st : List Item) → word_of st ≡ 2 → ended st ≡ outcome.Says true
unfolding ended
ended_true [] h = absurd (omega arith)
ended_true (sids a e ∷ st) h = absurd (omega arith)
ended_true (truth false ∷ st) h = absurd (omega arith)
ended_true (truth true ∷ []) h = refl
ended_true (truth true ∷ x ∷ st) h = let d = digit_some x in absurd (omega (arith, d.0))

pub ended_other : (st : List Item) → (word_of st ≡ 1 → ⊥) → (word_of st ≡ 2 → ⊥) → ended st ≡ outcome.Broken
unfolding ended
ended_other [] h k = refl
ended_other (sids a e ∷ st) h k = refl
ended_other (truth false ∷ []) h k = absurd (h (omega arith))
ended_other (truth true ∷ []) h k = absurd (k (omega arith))
ended_other (truth b ∷ x ∷ st) h k = refl
