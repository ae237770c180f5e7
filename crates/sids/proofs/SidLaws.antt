-- Laws of one identity at a place. For `sid_end`, `is_sid` and their callers.
-- In order: where the SID at a place ends, by each test (sid_end_short, -other, -many, -cut, -whole); what stands where one does (SidAt,
-- sid_at, sid_end_bounds); bytes that are exactly one SID (is-sid-.., Sid, sid_shape, sid_of_shape); a SID by its place and by its bytes
-- (sid_of_part, sid_end_of_part, sid_end_local). Worked examples are in Cases. Assumes nothing.
use Prim.Native.Nat.{ℕ, ◌+◌, ◌-◌, ◌*◌, ◌<◌, ◌≤◌}
use mathlib.Core.Path.{◌≡◌, refl, sym, ap, ◌∙◌}
use mathlib.Core.List.{List, ◌++◌}
use mathlib.Core.Bool.{Bool, true, false, cond}
use native.Mathlib.Omega.{arith}
use lib.ListN.{length, length-append}
use lib.Dec.{ltb, eqb}
use borrow.Author.Tests.{lt-ltb, le-ltb, ltb-true, ltb-false, eq-eqb, ne_eqb, eqb-true, eqb-false}
use Rattle.base.specs.Bytes.{byte_at, part}
use Rattle.base.proofs.BytesLaws.{length_part, part_at}
use Rattle.sids.specs.Sid.{sid_end, is_sid}
use Rattle.base.proofs.PartLaws.{byte_of_part}

-- ---- where the SID at a place ends, by each test

module _ (s : List ℕ) (at : ℕ) where
  pub sid_end_short : length s < at + 8 → sid_end s at ≡ 0
  unfolding sid_end
  sid_end_short h = rw (lt-ltb (length s) (at + 8) h)

  pub sid_end_other : at + 8 ≤ length s → (byte_at s at ≡ 1 → ⊥) → sid_end s at ≡ 0
  unfolding sid_end
  sid_end_other f h = rw (le-ltb (length s) (at + 8) f, ne_eqb (byte_at s at) 1 h)

  pub sid_end_many : at + 8 ≤ length s → byte_at s at ≡ 1 → 15 < byte_at s (at + 1) → sid_end s at ≡ 0
  unfolding sid_end
  sid_end_many f o h = rw (le-ltb (length s) (at + 8) f, eq-eqb (byte_at s at) 1 o, lt-ltb 15 (byte_at s (at + 1)) h)

  pub sid_end_cut : at + 8 ≤ length s → byte_at s at ≡ 1 → byte_at s (at + 1) ≤ 15 → length s < at + 8 + 4 * byte_at s (at + 1) →
      sid_end s at ≡ 0
  unfolding sid_end
  sid_end_cut f o m h =
      rw (
        le-ltb (length s) (at + 8) f,
        eq-eqb (byte_at s at) 1 o,
        le-ltb 15 (byte_at s (at + 1)) m,
        lt-ltb (length s) (at + 8 + 4 * byte_at s (at + 1)) h,
      )

  pub sid_end_whole : byte_at s at ≡ 1 → byte_at s (at + 1) ≤ 15 → at + 8 + 4 * byte_at s (at + 1) ≤ length s →
      sid_end s at ≡ at + 8 + 4 * byte_at s (at + 1)
  unfolding sid_end
  sid_end_whole o m h =
      rw (
        le-ltb (length s) (at + 8) (omega arith),
        eq-eqb (byte_at s at) 1 o,
        le-ltb 15 (byte_at s (at + 1)) m,
        le-ltb (length s) (at + 8 + 4 * byte_at s (at + 1)) h,
      )

-- ---- what stands where a SID does

pub record SidAt (s : List ℕ) (at : ℕ) : Type 0 where
  pub one : byte_at s at ≡ 1
  pub few : byte_at s (at + 1) ≤ 15
  pub whole : at + 8 + 4 * byte_at s (at + 1) ≤ length s
  pub ends : sid_end s at ≡ at + 8 + 4 * byte_at s (at + 1)

pub sid_at : (s : List ℕ) (at : ℕ) → (sid_end s at ≡ 0 → ⊥) → SidAt s at
sid_at s at h =
    go (ltb (length s) (at + 8)) refl (eqb (byte_at s at) 1) refl (ltb 15 n) refl (ltb (length s) (at + 8 + 4 * n)) refl
  where
    n : ℕ
    n = byte_at s (at + 1)

    go : (t : Bool) → ltb (length s) (at + 8) ≡ t → (u : Bool) → eqb (byte_at s at) 1 ≡ u → (v : Bool) → ltb 15 (byte_at s (at + 1)) ≡ v →
        (w : Bool) → ltb (length s) (at + 8 + 4 * byte_at s (at + 1)) ≡ w → SidAt s at
    go true e u f v g w i = absurd (h (sid_end_short s at (ltb-true _ _ e)))
    go false e false f v g w i = absurd (h (sid_end_other s at (ltb-false _ _ e) (eqb-false _ _ f)))
    go false e true f true g w i = absurd (h (sid_end_many s at (ltb-false _ _ e) (eqb-true _ _ f) (ltb-true _ _ g)))
    go false e true f false g true i =
        absurd (h (sid_end_cut s at (ltb-false _ _ e) (eqb-true _ _ f) (ltb-false _ _ g) (ltb-true _ _ i)))
    go false e true f false g false i =
        let o : byte_at s at ≡ 1 = eqb-true _ _ f in
        let m : byte_at s (at + 1) ≤ 15 = ltb-false _ _ g in
        let k : at + 8 + 4 * byte_at s (at + 1) ≤ length s = ltb-false _ _ i in
        record { one = o; few = m; whole = k; ends = sid_end_whole s at o m k }

pub sid_end_bounds : (s : List ℕ) (at : ℕ) → (sid_end s at ≡ 0 → ⊥) → (at + 8 ≤ sid_end s at) × (sid_end s at ≤ length s)
sid_end_bounds s at h = let a : SidAt s at = sid_at s at h in (omega arith, omega arith)

-- ---- bytes that are exactly one SID

pub record Sid (s : List ℕ) : Type 0 where
  pub one : byte_at s 0 ≡ 1
  pub few : byte_at s 1 ≤ 15
  pub long : length s ≡ 8 + 4 * byte_at s 1

pub is_sid_end : (s : List ℕ) → is_sid s ≡ true → sid_end s 0 ≡ length s
unfolding is_sid
is_sid_end s h = go (eqb (sid_end s 0) 0) h
  where
    go : (t : Bool) → cond t false (eqb (sid_end s 0) (length s)) ≡ true → sid_end s 0 ≡ length s
    go true q = let z : ◌≡◌ {A = ℕ} 0 1 = cc in absurd (omega arith)
    go false q = eqb-true _ _ q

pub is_sid_of_end : (s : List ℕ) → (sid_end s 0 ≡ 0 → ⊥) → sid_end s 0 ≡ length s → is_sid s ≡ true
unfolding is_sid
is_sid_of_end s h e = rw (ne_eqb (sid_end s 0) 0 h) (eq-eqb (sid_end s 0) (length s) e)

pub is_sid_none : (s : List ℕ) → sid_end s 0 ≡ 0 → is_sid s ≡ false
unfolding is_sid
is_sid_none s e = rw (eq-eqb (sid_end s 0) 0 e)

pub is_sid_some : (s : List ℕ) → (sid_end s 0 ≡ 0 → ⊥) → is_sid s ≡ eqb (sid_end s 0) (length s)
unfolding is_sid
is_sid_some s h = rw (ne_eqb (sid_end s 0) 0 h)

pub is_sid_not : (s : List ℕ) → is_sid s ≡ true → sid_end s 0 ≡ 0 → ⊥
is_sid_not s h e = let f = is_sid_none s e in let z : ◌≡◌ {A = ℕ} 0 1 = cc in omega arith

pub sid_shape : (s : List ℕ) → is_sid s ≡ true → Sid s
sid_shape s h =
    let a : SidAt s 0 = sid_at s 0 (is_sid_not s h) in
    let e : sid_end s 0 ≡ length s = is_sid_end s h in
    record { one = a.one; few = a.few; long = omega arith }

pub sid_of_shape : (s : List ℕ) → Sid s → is_sid s ≡ true
sid_of_shape s a =
    let l : length s ≡ 8 + 4 * byte_at s 1 = a.long in
    let e : sid_end s 0 ≡ 8 + 4 * byte_at s 1 = sid_end_whole s 0 a.one a.few (omega arith) in
    is_sid_of_end s (λ q. omega arith) (omega arith)

pub is_sid_long : (s : List ℕ) → is_sid s ≡ true → 8 ≤ length s
is_sid_long s h = let a : Sid s = sid_shape s h in omega arith

-- "8+4n bytes", and n is at most 15
pub is_sid_short : (s : List ℕ) → is_sid s ≡ true → length s ≤ 68
is_sid_short s h = let a : Sid s = sid_shape s h in omega arith

-- ---- a SID by its place and by its bytes

-- the bytes where a SID stands are a SID
pub sid_of_part : (s : List ℕ) (at e : ℕ) → sid_end s at ≡ e → (e ≡ 0 → ⊥) → is_sid (part s at e) ≡ true
sid_of_part s at e q h =
    let a : SidAt s at = sid_at s at (λ z. h (sym q ∙ z)) in
    let n : length (part s at e) ≡ e - at = length_part s at e (omega arith) (omega arith) in
    let z : byte_at (part s at e) 0 ≡ byte_at s (at + 0) = byte_of_part s at e 0 (omega arith) in
    let p : byte_at s (at + 0) ≡ byte_at s at = ap (byte_at s) (omega arith) in
    let o : byte_at (part s at e) 1 ≡ byte_at s (at + 1) = byte_of_part s at e 1 (omega arith) in
    sid_of_shape (part s at e) (record { one = omega arith; few = omega arith; long = omega arith })

-- and where a part is a SID, one stands there and ends with the part
pub sid_end_of_part : (s : List ℕ) (at e : ℕ) → at ≤ e → e ≤ length s → is_sid (part s at e) ≡ true → sid_end s at ≡ e
sid_end_of_part s at e l k h =
    let a : Sid (part s at e) = sid_shape (part s at e) h in
    let n : length (part s at e) ≡ e - at = length_part s at e l k in
    let z : byte_at (part s at e) 0 ≡ byte_at s (at + 0) = byte_of_part s at e 0 (omega arith) in
    let p : byte_at s (at + 0) ≡ byte_at s at = ap (byte_at s) (omega arith) in
    let o : byte_at (part s at e) 1 ≡ byte_at s (at + 1) = byte_of_part s at e 1 (omega arith) in
    let w : sid_end s at ≡ at + 8 + 4 * byte_at s (at + 1) = sid_end_whole s at (omega arith) (omega arith) (omega arith) in
    omega arith

pub sid_end_local : (p w q : List ℕ) → is_sid w ≡ true → sid_end (p ++ (w ++ q)) (length p) ≡ length p + length w
sid_end_local p w q h =
    let i : length (p ++ (w ++ q)) ≡ length p + (length w + length q) = simp length-append in
    sid_end_of_part (p ++ (w ++ q)) (length p) (length p + length w) (omega arith) (omega arith) (ap is_sid (part_at p w q) ∙ h)
