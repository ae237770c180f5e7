-- Taking a reading apart. In order: two readings that went through (bound), a test that let one through (allowed, passed), equal readings
-- (moved). Assumes nothing.
use Prim.Native.Nat.{ℕ}
use mathlib.Core.Path.{◌≡◌, refl}
use mathlib.Core.Bool.{Bool, true, false, cond}
use native.Mathlib.Omega.{arith}
use Rattle.base.specs.Bytes.{Read, bind, only}
use Rattle.base.specs.Bytes.Read.{none, some}

-- the two steps of a reading that went through
pub record Bound {A B : Type 0} (r : Read A) (k : A → ℕ → Read B) (b : B) (n : ℕ) : Type 0 where
  pub a : A
  pub next : ℕ
  pub first : r ≡ some a next
  pub then : k a next ≡ some b n

pub bound : {A B : Type 0} (r : Read A) (k : A → ℕ → Read B) (b : B) (n : ℕ) → bind r k ≡ some b n → Bound r k b n
bound none k b n e = let z : ◌≡◌ {A = ℕ} 0 1 = cc in absurd (omega arith)
bound (some a at) k b n e = record { a = a; next = at; first = refl; then = e }

pub allowed : {A : Type 0} (t : Bool) (r : Read A) (b : A) (n : ℕ) → only t r ≡ some b n → (t ≡ true) × (r ≡ some b n)
allowed true r b n e = (refl, e)
allowed false r b n e = let z : ◌≡◌ {A = ℕ} 0 1 = cc in absurd (omega arith)

-- what is read where a test does not refuse
pub passed : {A : Type 0} (t : Bool) (r : Read A) (a : A) (n : ℕ) → cond t none r ≡ some a n → (t ≡ false) × (r ≡ some a n)
passed true r a n e = let z : ◌≡◌ {A = ℕ} 0 1 = cc in absurd (omega arith)
passed false r a n e = (refl, e)

-- what holds of one reading holds of its equal
pub moved : {A : Type 0} (P : A → ℕ → Type 0) {a b : A} {m n : ℕ} → some a m ≡ some b n → P a m → P b n
moved P {a} {b} {m} {n} e h =
    let p : a ≡ b = cc in
    let q : m ≡ n = cc in
    rw (← p, ← q) h
