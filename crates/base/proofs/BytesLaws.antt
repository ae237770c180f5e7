-- Laws of lists of bytes. The index:
-- same: same_refl same_eq eq_same same_sym same_length same_ne same_false_of_ne same_false_of_length; from a place: same_hit same_miss
-- same_end.
-- Parts: part_append length_part part_at part_of_drop part_whole part_empty part_front part_short part_cons.
-- Bytes: bytes_append bytes_take bytes_drop bytes_part bytes_reverse, byte_lt bytes_of_lt.
-- Not here: numbers of two, four and six bytes, WordsLaws; what is written of a number, ValueLaws. Assumes nothing.
use Prim.Native.Nat.{ℕ, zero, suc, ◌+◌, ◌-◌, ◌<◌, ◌≤◌}
use mathlib.Core.Path.{◌≡◌, refl, sym, ap, ap₂, ◌∙◌}
use mathlib.Core.List.{List, [], ◌∷◌, ◌++◌, reverse_aux}
use mathlib.Core.Bool.{Bool, true, false, cond, ◌&&◌}
use native.Mathlib.Nat.{sub-zero, min-le_left}
use native.Mathlib.Numerals.{add-one}
use native.Mathlib.Omega.{arith}
use lib.Dec.{T, eqb, ltb, ltb→lt}
use lib.Pow.{are_bytes}
use lib.ListN.{length, get_or, take, drop, length-take, length-drop, drop_of_length-le}
use lib.Seq.{drop-cons, drop-drop, take-add, take-length, length-take-le, take-append_seam, drop-append_seam}
use borrow.Author.Tests.{lt-ltb, eq-eqb, ne_eqb, eqb-true}
use Rattle.base.specs.Bytes.{same, part, byte_at}

-- ---- same

pub same_refl : (l : List ℕ) → same l l ≡ true
unfolding same
same_refl [] = refl
same_refl (x ∷ l) = rw (eq-eqb x x refl) (same_refl l)

pub same_eq : (a b : List ℕ) → same a b ≡ true → a ≡ b
unfolding same
same_eq [] [] e = refl
same_eq [] (y ∷ ys) e = let z : ◌≡◌ {A = ℕ} 0 1 = cc in absurd (omega arith)
same_eq (x ∷ xs) [] e = let z : ◌≡◌ {A = ℕ} 0 1 = cc in absurd (omega arith)
same_eq (x ∷ xs) (y ∷ ys) e = go (same_eq xs ys) (eqb x y) refl e
  where
    go : (same xs ys ≡ true → xs ≡ ys) → (t : Bool) → eqb x y ≡ t → cond t (same xs ys) false ≡ true → x ∷ xs ≡ y ∷ ys
    go ih true u v = ap₂ ◌∷◌ (eqb-true x y u) (ih v)
    go ih false u v = let z : ◌≡◌ {A = ℕ} 0 1 = cc in absurd (omega arith)

pub eq_same : (a b : List ℕ) → a ≡ b → same a b ≡ true
eq_same a b e = rw e (same_refl b)

pub same_false_of_ne : (a b : List ℕ) → (a ≡ b → ⊥) → same a b ≡ false
same_false_of_ne a b h = go (same a b) refl
  where
    go : (t : Bool) → same a b ≡ t → t ≡ false
    go true e = absurd (h (same_eq a b e))
    go false e = refl

pub same_ne : (a b : List ℕ) → same a b ≡ false → a ≡ b → ⊥
same_ne a b e q = let p = eq_same a b q in let z : ◌≡◌ {A = ℕ} 0 1 = cc in omega arith

pub same_length : (a b : List ℕ) → same a b ≡ true → length a ≡ length b
same_length a b e = ap length (same_eq a b e)

pub same_false_of_length : (a b : List ℕ) → (length a ≡ length b → ⊥) → same a b ≡ false
same_false_of_length a b h = same_false_of_ne a b (λ e. h (ap length e))

pub same_sym : (a b : List ℕ) → same a b ≡ same b a
same_sym a b = go (same a b) refl
  where
    go : (t : Bool) → same a b ≡ t → t ≡ same b a
    go true e = sym (eq_same b a (sym (same_eq a b e)))
    go false e = sym (same_false_of_ne b a (λ q. same_ne a b e (sym q)))

-- ---- same, byte by byte from a place

module _ (a b : List ℕ) (i : ℕ) (ha : i < length a) (hb : i < length b) where
  pub same_hit : get_or a i 0 ≡ get_or b i 0 → same (drop i a) (drop i b) ≡ same (drop (i + 1) a) (drop (i + 1) b)
  unfolding same
  same_hit e = rw (add-one, drop-cons a i 0, drop-cons b i 0, eq-eqb (get_or a i 0) (get_or b i 0) e)

  pub same_miss : (get_or a i 0 ≡ get_or b i 0 → ⊥) → same (drop i a) (drop i b) ≡ false
  unfolding same
  same_miss e = rw (drop-cons a i 0, drop-cons b i 0, ne_eqb (get_or a i 0) (get_or b i 0) e)

pub same_end : (a b : List ℕ) (i : ℕ) → length a ≤ i → length b ≤ i → same (drop i a) (drop i b) ≡ true
unfolding same
same_end a b i ha hb = rw (drop_of_length-le a ha, drop_of_length-le b hb)

-- ---- parts

pub part_append : (s : List ℕ) (a b e : ℕ) → a ≤ b → b ≤ e → part s a b ++ part s b e ≡ part s a e
part_append s a b e h k =
    let p : b ≡ a + (b - a) = omega arith in
    let q : e - a ≡ (b - a) + (e - b) = omega arith in
    sym (ap (λ (n : ℕ). take n (drop a s)) q ∙ take-add (b - a) (e - b) (drop a s)
    ∙ ap (λ (l : List ℕ). part s a b ++ take (e - b) l) (drop-drop (b - a) a s ∙ ap (λ (n : ℕ). drop n s) (sym p)))

pub length_part : (s : List ℕ) (a e : ℕ) → a ≤ e → e ≤ length s → length (part s a e) ≡ e - a
length_part s a e h k = length-take-le (e - a) (drop a s) (simp length-drop (omega arith))

pub part_of_drop : (s w q : List ℕ) (at : ℕ) → drop at s ≡ w ++ q → part s at (at + length w) ≡ w
part_of_drop s w q at d =
    let e : at + length w - at ≡ length w = omega arith in
    ap (λ (n : ℕ). take n (drop at s)) e ∙ ap (take (length w)) d ∙ take-append_seam w q

pub part_at : (p w q : List ℕ) → part (p ++ (w ++ q)) (length p) (length p + length w) ≡ w
part_at p w q = part_of_drop (p ++ (w ++ q)) w q (length p) (drop-append_seam p (w ++ q))

pub part_whole : (s : List ℕ) → part s 0 (length s) ≡ s
part_whole s = ap (λ (n : ℕ). take n s) (sub-zero (length s)) ∙ take-length s

pub part_empty : (s : List ℕ) (a : ℕ) → part s a a ≡ []
part_empty s a = let e : a - a ≡ 0 = omega arith in rw e

-- lent from its start
pub part_front : (l : List ℕ) (n : ℕ) → part l 0 n ≡ take n l
part_front l n = let m : n - 0 ≡ n = omega arith in ap (λ (k : ℕ). take k l) m

pub part_short : (l : List ℕ) (n : ℕ) → length (part l 0 n) ≤ n
part_short l n = rw (part_front l n, length-take n l) (min-le_left n (length l))

pub part_cons : (s : List ℕ) (a e : ℕ) → a < e → a < length s → part s a e ≡ byte_at s a ∷ part s (a + 1) e
part_cons s a e h k =
    let d : drop a s ≡ get_or s a 0 ∷ drop (a + 1) s = rw (add-one, drop-cons s a 0) in
    let n : e - a ≡ suc (e - (a + 1)) = omega arith in
    rw (n, d)

-- ---- bytes

both : (t u : Bool) → T (t && u) → T t × T u
both true u q = (tt, q)
both false u q = absurd q

pub bytes_append : (a b : List ℕ) → T (are_bytes a) → T (are_bytes b) → T (are_bytes (a ++ b))
bytes_append [] b h k = k
bytes_append (x ∷ a) b h k = go (ltb x 256) (λ q. bytes_append a b q k) h
  where
    go : (t : Bool) → (T (are_bytes a) → T (are_bytes (a ++ b))) → T (t && are_bytes a) → T (t && are_bytes (a ++ b))
    go true f q = f q
    go false f q = q

pub bytes_take : (n : ℕ) (s : List ℕ) → T (are_bytes s) → T (are_bytes (take n s))
bytes_take zero s h = tt
bytes_take (suc n) [] h = tt
bytes_take (suc n) (x ∷ s) h = go (ltb x 256) (bytes_take n s) h
  where
    go : (t : Bool) → (T (are_bytes s) → T (are_bytes (take n s))) → T (t && are_bytes s) → T (t && are_bytes (take n s))
    go true f q = f q
    go false f q = q

pub bytes_drop : (n : ℕ) (s : List ℕ) → T (are_bytes s) → T (are_bytes (drop n s))
bytes_drop zero s h = h
bytes_drop (suc n) [] h = h
bytes_drop (suc n) (x ∷ s) h = bytes_drop n s (both (ltb x 256) (are_bytes s) h).1

pub bytes_part : (s : List ℕ) (a e : ℕ) → T (are_bytes s) → T (are_bytes (part s a e))
bytes_part s a e h = bytes_take (e - a) (drop a s) (bytes_drop a s h)

pub bytes_reverse : (s r : List ℕ) → T (are_bytes s) → T (are_bytes r) → T (are_bytes (reverse_aux s r))
bytes_reverse [] r h k = k
bytes_reverse (x ∷ s) r h k = go (ltb x 256) (bytes_reverse s (x ∷ r)) h
  where
    go : (t : Bool) → (T (are_bytes s) → T (t && are_bytes r) → T (are_bytes (reverse_aux s (x ∷ r)))) → T (t && are_bytes s) →
        T (are_bytes (reverse_aux s (x ∷ r)))
    go true f q = f q k
    go false f q = absurd q

pub byte_lt : (s : List ℕ) (i : ℕ) → T (are_bytes s) → byte_at s i < 256
byte_lt [] i h = omega arith
byte_lt (x ∷ s) zero h = ltb→lt x 256 (both (ltb x 256) (are_bytes s) h).0
byte_lt (x ∷ s) (suc i) h = byte_lt s i (both (ltb x 256) (are_bytes s) h).1

pub bytes_of_lt : (s : List ℕ) → ((i : ℕ) → i < length s → byte_at s i < 256) → T (are_bytes s)
bytes_of_lt [] h = tt
bytes_of_lt (x ∷ s) h = let l : x < 256 = h 0 (omega arith) in rw (lt-ltb x 256 l) (bytes_of_lt s (λ i k. h (suc i) (omega arith)))
