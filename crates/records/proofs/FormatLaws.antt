-- Reading and writing, once for both formats. `Kept f w Ok` says that the reader f and the writer w belong together: what w writes of a
-- thing that is Ok is read back by f, wherever it stands, and what f reads is Ok and stands there as w writes it.
-- After it, many of one kind (many_back, many_form). The fields of a token are in FieldsLaws. Assumes nothing.
use Prim.Native.Nat.{ℕ, zero, suc, ◌+◌, ◌≤◌}
use mathlib.Core.Path.{◌≡◌, refl, sym, ap}
use mathlib.Core.List.{List, [], ◌∷◌, ◌++◌}
use native.Mathlib.Nat.{add-zero}
use native.Mathlib.Omega.{arith}
use lib.Dec.{T}
use lib.Pow.{are_bytes}
use lib.ListN.{length, length-append}
use Rattle.base.specs.Bytes.{Read}
use Rattle.base.specs.Bytes.Read.{some}
use Rattle.base.proofs.PlaceLaws.{Stands, stands_left, stands_right, Formed, formed_none, formed_append}
use Rattle.base.proofs.ReadLaws.{bound, moved}
use Rattle.records.specs.Shaped.{All}
use Rattle.records.specs.Fields.{many, each}

-- ---- the two together

pub record Kept {A : Type 0} (f : List ℕ → ℕ → Read A) (w : A → List ℕ) (Ok : A → Type 0) : Type 0 where
  pub back : (a : A) → Ok a → {s : List ℕ} {at : ℕ} {q : List ℕ} → Stands s at (w a) q → f s at ≡ some a (at + length (w a))
  pub form : {s : List ℕ} {at n : ℕ} {a : A} → T (are_bytes s) → at ≤ length s → f s at ≡ some a n → Formed s at n (w a) × Ok a

-- ---- many of one kind

module _ {A : Type 0} {f : List ℕ → ℕ → Read A} {w : A → List ℕ} {Ok : A → Type 0} (k : Kept f w Ok) where
  pub many_back : (l : List A) → All Ok l → {s : List ℕ} {at : ℕ} {q : List ℕ} → Stands s at (each w l) q →
      many f (length l) s at ≡ some l (at + length (each w l))
  unfolding many each
  many_back [] o {s} {at} x = ap (some []) (sym (add-zero at))
  many_back (a ∷ l) o {s} {at} x =
      let n : at + length (w a) + length (each w l) ≡ at + length (w a ++ each w l) = rw (length-append (w a) (each w l)) (omega arith) in
      rw (k.back a o.0 (stands_left (w a) (each w l) x), many_back l o.1 (stands_right (w a) (each w l) x)) (ap (some (a ∷ l)) n)

  pub many_form : (c : ℕ) {s : List ℕ} {at n : ℕ} {l : List A} → T (are_bytes s) → at ≤ length s → many f c s at ≡ some l n →
      Formed s at n (each w l) × (length l ≡ c) × All Ok l
  unfolding many each
  many_form zero {s} {at} b i e =
      moved (λ l n. Formed s at n (each w l) × (length l ≡ zero) × All Ok l) e (formed_none s at i, refl, tt)
  many_form (suc c) {s} {at} {n} {l} b i e =
      let x = bound _ _ _ _ e in
      let y = bound _ _ _ _ x.then in
      let g = k.form b i x.first in
      let h = many_form c b g.0.inside y.first in
      moved (λ l n. Formed s at n (each w l) × (length l ≡ suc c) × All Ok l) y.then
      (formed_append g.0 h.0, ap suc h.1, (g.1, h.2))
