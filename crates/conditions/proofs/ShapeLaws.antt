-- The shape of an expression does not depend on what its tests are told (shape_any): the operands of two runs are alike, truths in the
-- same places, and so are the faults. Assumes nothing.
use Prim.Native.Nat.{ℕ, zero, suc, ◌+◌}
use mathlib.Core.Path.{◌≡◌, refl, ap, ◌∙◌}
use mathlib.Core.List.{List, [], ◌∷◌}
use mathlib.Core.Bool.{Bool, true, false, cond}
use lib.ListN.{length, drop}
use lib.Dec.{ltb, eqb}
use Rattle.std.specs.Prelude.{Ok, Err}
use Rattle.base.specs.Bytes.{byte_at, part}
use Rattle.conditions.specs.Condition.{zeros}
use Rattle.conditions.specs.Condition.{Item, Next, enclosed_end, literal_end, literals, asks, deepest, push, given, literal, composite}
use Rattle.conditions.specs.Condition.{answered, paired, negated, step_at, ended, follow, run_from, opened, outcome_by, untold, shape_of}
use Rattle.conditions.specs.Condition.{shape}
use Rattle.conditions.specs.Condition.Item.{truth, sids}
use Rattle.conditions.specs.Condition.Next.{broken, foreign, on}
use Rattle.conditions.specs.Scanning.{Scan, Outcome, scan_result, weighed}
use Rattle.conditions.specs.Scanning.{Scan as scan}
use Rattle.conditions.specs.Scanning.Outcome.{Broken, Foreign, Says}
use Rattle.conditions.specs.declared.fault.Fault.{Fault}
use Rattle.conditions.specs.declared.fault.Fault.TheVariants as fault

-- operands that differ in truths alone
abbrev Alike : List Item → List Item → Type 0
Alike [] [] = Unit
Alike [] (y ∷ u) = ⊥
Alike (x ∷ t) [] = ⊥
Alike (truth a ∷ t) (truth b ∷ u) = Alike t u
Alike (truth a ∷ t) (sids b e ∷ u) = ⊥
Alike (sids a d ∷ t) (truth b ∷ u) = ⊥
Alike (sids a d ∷ t) (sids b e ∷ u) = Alike t u

abbrev AlikeNext : Next → Next → Type 0
AlikeNext broken broken = Unit
AlikeNext broken foreign = ⊥
AlikeNext broken (on q u) = ⊥
AlikeNext foreign broken = ⊥
AlikeNext foreign foreign = Unit
AlikeNext foreign (on q u) = ⊥
AlikeNext (on p t) broken = ⊥
AlikeNext (on p t) foreign = ⊥
AlikeNext (on p t) (on q u) = (p ≡ q) × Alike t u

length_alike : (t u : List Item) → Alike t u → length t ≡ length u
length_alike [] [] h = refl
length_alike [] (y ∷ u) h = absurd h
length_alike (x ∷ t) [] h = absurd h
length_alike (truth a ∷ t) (truth b ∷ u) h = ap suc (length_alike t u h)
length_alike (truth a ∷ t) (sids b e ∷ u) h = absurd h
length_alike (sids a d ∷ t) (truth b ∷ u) h = absurd h
length_alike (sids a d ∷ t) (sids b e ∷ u) h = ap suc (length_alike t u h)

cond_alike : (c : Bool) (x y x' y' : Next) → AlikeNext x x' → AlikeNext y y' → AlikeNext (cond c x y) (cond c x' y')
cond_alike true x y x' y' h k = h
cond_alike false x y x' y' h k = k

push_alike : (next : ℕ) (x y : Item) (t u : List Item) → Alike (x ∷ t) (y ∷ u) → Alike t u → AlikeNext (push next x t) (push next y u)
unfolding push
push_alike next x y t u h k =
    rw (length_alike t u k) (cond_alike (ltb (length u) deepest) (on next (x ∷ t)) broken (on next (y ∷ u)) broken (refl, h) tt)

given_alike : (v : Scan) (x y : Next) → AlikeNext x y → AlikeNext (given v x) (given v y)
given_alike scan.Broken x y h = tt
given_alike scan.Foreign x y h = tt
given_alike scan.Plain x y h = h

module _ (s : List ℕ) (at : ℕ) where
  literal_alike : (t u : List Item) → Alike t u → AlikeNext (literal s at t) (literal s at u)
  unfolding literal
  literal_alike t u h =
      let e = literal_end s at in
      cond_alike (eqb (literal_end s at) 0) broken _ broken _ tt
      (push_alike (literal_end s at) (sids at (literal_end s at)) (sids at (literal_end s at)) t u h h)

  composite_alike : (t u : List Item) → Alike t u → AlikeNext (composite s at t) (composite s at u)
  unfolding composite
  composite_alike t u h =
      cond_alike (eqb (enclosed_end s at) 0) broken _ broken _ tt
      (given_alike (literals (part s (at + 5) (enclosed_end s at))) _ _
      (push_alike (enclosed_end s at) (sids (at + 5) (enclosed_end s at)) (sids (at + 5) (enclosed_end s at)) t u h h))

module _ (next : ℕ) where
  answered_alike : (a b : Bool) (t u : List Item) → Alike t u → AlikeNext (answered a next t) (answered b next u)
  unfolding answered
  answered_alike a b [] [] h = tt
  answered_alike a b [] (y ∷ u) h = absurd h
  answered_alike a b (x ∷ t) [] h = absurd h
  answered_alike a b (truth c ∷ t) (truth d ∷ u) h = tt
  answered_alike a b (truth c ∷ t) (sids d e ∷ u) h = absurd h
  answered_alike a b (sids c f ∷ t) (truth d ∷ u) h = absurd h
  answered_alike a b (sids c f ∷ t) (sids d e ∷ u) h = push_alike next (truth a) (truth b) t u h h

  negated_alike : (t u : List Item) → Alike t u → AlikeNext (negated next t) (negated next u)
  unfolding negated
  negated_alike [] [] h = tt
  negated_alike [] (y ∷ u) h = absurd h
  negated_alike (x ∷ t) [] h = absurd h
  negated_alike (truth c ∷ t) (truth d ∷ u) h = push_alike next _ _ t u h h
  negated_alike (truth c ∷ t) (sids d e ∷ u) h = absurd h
  negated_alike (sids c f ∷ t) (truth d ∷ u) h = absurd h
  negated_alike (sids c f ∷ t) (sids d e ∷ u) h = tt

  paired_alike : (every : Bool) (t u : List Item) → Alike t u → AlikeNext (paired every next t) (paired every next u)
  unfolding paired
  paired_alike every [] [] h = tt
  paired_alike every [] (y ∷ u) h = absurd h
  paired_alike every (x ∷ t) [] h = absurd h
  paired_alike every (sids c f ∷ t) (sids d e ∷ u) h = tt
  paired_alike every (sids c f ∷ t) (truth d ∷ u) h = absurd h
  paired_alike every (truth c ∷ t) (sids d e ∷ u) h = absurd h
  paired_alike every (truth c ∷ []) (truth d ∷ []) h = tt
  paired_alike every (truth c ∷ []) (truth d ∷ y ∷ u) h = absurd h
  paired_alike every (truth c ∷ x ∷ t) (truth d ∷ []) h = absurd h
  paired_alike every (truth c ∷ truth a ∷ t) (truth d ∷ truth b ∷ u) h = push_alike next _ _ t u h h
  paired_alike every (truth c ∷ truth a ∷ t) (truth d ∷ sids b e ∷ u) h = absurd h
  paired_alike every (truth c ∷ sids a f ∷ t) (truth d ∷ truth b ∷ u) h = absurd h
  paired_alike every (truth c ∷ sids a f ∷ t) (truth d ∷ sids b e ∷ u) h = tt

step_alike : (a b : Bool) (s : List ℕ) (at : ℕ) (t u : List Item) → Alike t u → AlikeNext (step_at a s at t) (step_at b s at u)
unfolding step_at
step_alike a b s at t u h =
    cond_alike (eqb (byte_at s at) 0x51) _ _ _ _ (literal_alike s at t u h)
    (cond_alike (eqb (byte_at s at) 0x50) _ _ _ _ (composite_alike s at t u h)
    (cond_alike (asks (byte_at s at)) _ _ _ _ (answered_alike (at + 1) a b t u h)
    (cond_alike (eqb (byte_at s at) 0xa0) _ _ _ _ (paired_alike (at + 1) true t u h)
    (cond_alike (eqb (byte_at s at) 0xa1) _ _ _ _ (paired_alike (at + 1) false t u h)
    (cond_alike (eqb (byte_at s at) 0xa2) _ _ _ _ (negated_alike (at + 1) t u h) tt)))))

ended_alike : (t u : List Item) → Alike t u → shape_of (ended t) ≡ shape_of (ended u)
unfolding ended
ended_alike [] [] h = refl
ended_alike [] (y ∷ u) h = absurd h
ended_alike (x ∷ t) [] h = absurd h
ended_alike (sids c f ∷ t) (sids d e ∷ u) h = refl
ended_alike (sids c f ∷ t) (truth d ∷ u) h = absurd h
ended_alike (truth c ∷ t) (sids d e ∷ u) h = absurd h
ended_alike (truth c ∷ []) (truth d ∷ []) h = refl
ended_alike (truth c ∷ []) (truth d ∷ y ∷ u) h = absurd h
ended_alike (truth c ∷ x ∷ t) (truth d ∷ []) h = absurd h
ended_alike (truth c ∷ x ∷ t) (truth d ∷ y ∷ u) h = refl

shape_cond : (c : Bool) (x y x' y' : Outcome) → shape_of x ≡ shape_of x' → shape_of y ≡ shape_of y' → shape_of (cond c x y) ≡ shape_of
    (cond c x' y')
shape_cond true x y x' y' h k = h
shape_cond false x y x' y' h k = k

module _ (f g : ℕ → List Item → Bool) (s : List ℕ) where
  run_from_alike : (n at : ℕ) (t u : List Item) → Alike t u → shape_of (run_from f s n at t) ≡ shape_of (run_from g s n at u)
  unfolding run_from
  run_from_alike zero at t u h = ended_alike t u h
  run_from_alike (suc n) at t u h =
      shape_cond (eqb (byte_at s at) 0) _ _ _ _
      (shape_cond (zeros (drop at s)) _ _ _ _ (ended_alike t u h) refl)
      (go (run_from_alike n) (step_at (f (byte_at s at) t) s at t) (step_at (g (byte_at s at) u) s at u)
      (step_alike (f (byte_at s at) t) (g (byte_at s at) u) s at t u h))
    where
      go : ((i : ℕ) (t u : List Item) → Alike t u → shape_of (run_from f s n i t) ≡ shape_of (run_from g s n i u)) →
          (x y : Next) → AlikeNext x y →
          shape_of (follow (run_from f s n) x) ≡ shape_of (follow (run_from g s n) y)
      go k broken broken h = refl
      go k broken foreign h = absurd h
      go k broken (on q u) h = absurd h
      go k foreign broken h = absurd h
      go k foreign foreign h = refl
      go k foreign (on q u) h = absurd h
      go k (on p t) broken h = absurd h
      go k (on p t) foreign h = absurd h
      go k (on p t) (on q u) (e, h) = k p t u h ∙ ap (λ (i : ℕ). shape_of (run_from g s n i u)) e

  pub shape_alike : shape_of (outcome_by f s) ≡ shape_of (outcome_by g s)
  unfolding outcome_by
  shape_alike = shape_cond (opened s) _ _ _ _ (run_from_alike (length s) 4 [] [] tt) refl

-- the shape is that of every outcome_by
pub shape_any : (tell : ℕ → List Item → Bool) (s : List ℕ) → shape_of (outcome_by tell s) ≡ shape s
unfolding shape
shape_any tell s = shape_alike tell untold s

-- the code's answer on the shape is its answer on any outcome, without the truth
pub judged_fault : (tell : ℕ → List Item → Bool) (s : List ℕ) (e : Fault) → Err e ≡ weighed (outcome_by tell s) → Err e ≡ scan_result (shape s)
judged_fault tell s e h = go (outcome_by tell s) h ∙ ap scan_result (shape_any tell s)
  where
    go : (o : Outcome) → Err e ≡ weighed o → Err e ≡ scan_result (shape_of o)
    go Broken q = let same : e ≡ fault.Broken = cc in ap (λ (x : Fault). Err x) same
    go Foreign q = let same : e ≡ fault.Foreign = cc in ap (λ (x : Fault). Err x) same
    go (Says b) q = absurd (cc)

pub judged_plain : (tell : ℕ → List Item → Bool) (s : List ℕ) (b : Bool) → Ok b ≡ weighed (outcome_by tell s) → Ok tt ≡ scan_result (shape s)
judged_plain tell s b h = go (outcome_by tell s) h ∙ ap scan_result (shape_any tell s)
  where
    go : (o : Outcome) → Ok b ≡ weighed o → Ok tt ≡ scan_result (shape_of o)
    go Broken q = absurd (cc)
    go Foreign q = absurd (cc)
    go (Says t) q = refl
