-- Laws of unpacking: what readings come to, one after the other.
-- In order: a number of at most so much, readings in a row, a number and a count in a row, many of one kind, what follows the groups, an
-- identity. Assumes nothing.
use Prim.Native.Nat.{ℕ, zero, suc, ◌+◌, ◌-◌, ◌<◌, ◌≤◌}
use mathlib.Core.Path.{◌≡◌, refl, ap, ap₂, ◌∙◌}
use mathlib.Core.List.{List, [], ◌∷◌, ◌++◌}
use mathlib.Core.Bool.{Bool, true, false}
use native.Mathlib.Nat.{add-zero}
use native.Mathlib.Omega.{arith}
use borrow.Author.Tests.{le-leb, lt-leb, eq-eqb, ne_eqb}
use lib.ListN.{length, length-append}
use lib.Seq.{sets}
use lib.Dec.{leb}
use Rattle.std.specs.Prelude.{None, Some}
use Rattle.base.specs.Bytes.{Read, bind, only, little, big}
use Rattle.base.specs.Bytes.Read.{none, some}
use Rattle.base.specs.Bits.{and}
use Rattle.base.specs.Sevens.{number, num_of}
use Rattle.base.specs.declared.sevens.Num.{Num}
use Rattle.base.proofs.SevensSteps.{num_none, num_some}
use Rattle.base.proofs.WriteLaws.{sets_append}
use Rattle.records.specs.Token.{confined}
use Rattle.records.specs.Fields.{many, each}
use Rattle.records.specs.Unpacking.{written, then, copied, outcome, limited, word_at, counted, confinement_copied, rest_copied}
use Rattle.records.specs.TokenRecord.{packed_identity}
use Rattle.records.specs.Unpacking.Outcome.{refused, done}

-- ---- numbers as the code answers them

num_of_none : None ≡ num_of none
unfolding num_of
num_of_none = refl

-- a number of at most so much
pub limited_none : (most : ℕ) (q : Read ℕ) → None ≡ num_of q → None ≡ num_of (bind q (λ n a. only (leb n most) (some n a)))
limited_none most q e = rw (num_none q e) (num_of_none)

module _ (most : ℕ) (r : Num) where
  pub limited_over : (q : Read ℕ) → Some r ≡ num_of q → most < r.value →
      None ≡ num_of (bind q (λ n a. only (leb n most) (some n a)))
  limited_over q e h = rw (num_some q r e, lt-leb r.value most h) (num_of_none)

  pub limited_within : (q : Read ℕ) → Some r ≡ num_of q → r.value ≤ most →
      Some r ≡ num_of (bind q (λ n a. only (leb n most) (some n a)))
  limited_within q e h = rw (num_some q r e, le-leb r.value most h) (e ∙ rw (num_some q r e))

-- a test inside is a test outside
pub limited_bind : {A : Type 0} (q : Read ℕ) (most : ℕ) (k : ℕ → ℕ → Read A) →
    bind q (λ n a. only (leb n most) (k n a)) ≡ bind (bind q (λ n a. only (leb n most) (some n a))) k
limited_bind none most k = refl
limited_bind (some v n) most k = go (leb v most)
  where
    go : (t : Bool) → only t (k v n) ≡ bind (only t (some v n)) k
    go true = refl
    go false = refl

-- ---- readings in a row

module _ (k : ℕ → Read (List ℕ)) (out : List ℕ) (o : ℕ) where
  pub then_refused : (r : Read (List ℕ)) → outcome r out o ≡ refused → outcome (then r k) out o ≡ refused
  unfolding outcome
  then_refused none e = refl
  then_refused (some w a) e = cc

  pub then_some : (w : List ℕ) (a : ℕ) → outcome (then (some w a) k) out o ≡ outcome (k a) (sets out o w) (o + length w)
  unfolding outcome
  then_some w a = go (k a)
    where
      go : (q : Read (List ℕ)) → outcome (bind q (λ v end. some (w ++ v) end)) out o ≡ outcome q (sets out o w) (o + length w)
      go none = refl
      go (some v end) =
          let x : o + length (w ++ v) ≡ o + length w + length v = omega (arith, length-append w v) in
          ap₂ (λ (l : List ℕ) (p : ℕ). done l p end) (sets_append out o w v) x

  pub then_done : (r : Read (List ℕ)) (l : List ℕ) (p a : ℕ) → outcome r out o ≡ done l p a → outcome (then r k) out o ≡ outcome (k a) l p
  unfolding outcome
  then_done none l p a e = cc
  then_done (some w b) l p a e =
      let eb : b ≡ a = cc in
      let ep : o + length w ≡ p = cc in
      let el : sets out o w ≡ l = cc in
      then_some w b ∙ rw (eb, ep, el)

module _ (f : List ℕ → ℕ → Read (List ℕ)) (s : List ℕ) (at : ℕ) (out : List ℕ) (o : ℕ) where
  pub copied_none : (n : ℕ) → n ≡ 0 → outcome (copied f n s at) out o ≡ done out o at
  unfolding copied outcome
  copied_none n e = rw (e, add-zero)

  pub copied_refused : (n : ℕ) → 0 < n → outcome (f s at) out o ≡ refused → outcome (copied f n s at) out o ≡ refused
  unfolding copied
  copied_refused zero h e = absurd (omega arith)
  copied_refused (suc n) h e = then_refused (λ (a : ℕ). copied f n s a) out o (f s at) e

  pub copied_done : (n : ℕ) (l : List ℕ) (p a : ℕ) → 0 < n → outcome (f s at) out o ≡ done l p a →
      outcome (copied f n s at) out o ≡ outcome (copied f (n - 1) s a) l p
  unfolding copied
  copied_done zero l p a h e = absurd (omega arith)
  copied_done (suc n) l p a h e =
      let x : n ≡ suc n - 1 = omega arith in
      then_done (λ (b : ℕ). copied f n s b) out o (f s at) l p a e ∙ ap (λ (m : ℕ). outcome (copied f m s a) l p) x

-- ---- a number in a row of readings

module _ (s : List ℕ) (at : ℕ) (out : List ℕ) (o : ℕ) where
  pub word_refused : None ≡ num_of (number 32 s at) → outcome (word_at s at) out o ≡ refused
  unfolding outcome
  word_refused is = rw (num_none (number 32 s at) is)

  pub word_done : (r : Num) → Some r ≡ num_of (number 32 s at) →
      outcome (word_at s at) out o ≡ done (sets out o (little 4 r.value)) (o + 4) r.next
  unfolding little outcome
  word_done r is = rw (num_some (number 32 s at) r is)

-- a count and what follows it
module _ (most : ℕ) (s : List ℕ) (at : ℕ) (k : ℕ → ℕ → Read (List ℕ)) (out : List ℕ) (o : ℕ) where
  pub counted_refused : None ≡ num_of (limited most s at) → outcome (counted most s at k) out o ≡ refused
  unfolding outcome
  counted_refused is = rw (num_none (limited most s at) is)

  pub counted_done : (r : Num) → Some r ≡ num_of (limited most s at) →
      outcome (counted most s at k) out o ≡ outcome (k r.value r.next) (sets out o (little 4 r.value)) (o + 4)
  unfolding little
  counted_done r is =
      rw (num_some (limited most s at) r is) (then_some (k r.value) out o (little 4 r.value) r.next)

-- ---- an identity

-- a front before what is written
pub written_append : {A : Type 0} (h : List ℕ) (g : A → List ℕ) (q : Read A) →
    written (λ (a : A). h ++ g a) q ≡ bind (written g q) (λ v end. some (h ++ v) end)
written_append h g none = refl
written_append h g (some a end) = refl

-- things of one kind, as what is written of each
many_next : {A : Type 0} (g : A → List ℕ) (q : Read A) (k : ℕ → Read (List A)) (l : ℕ → Read (List ℕ)) →
    ((b : ℕ) → written (each g) (k b) ≡ l b) → written (each g) (bind q (λ a b. bind (k b) (λ xs end. some (a ∷ xs) end)))
    ≡ then (written g q) l
unfolding each
many_next g none k l e = refl
many_next {A} g (some a b) k l e = go (k b) ∙ ap (λ (x : Read (List ℕ)). bind x (λ v end. some (g a ++ v) end)) (e b)
  where
    go : (q : Read (List A)) → written (each g) (bind q (λ xs end. some (a ∷ xs) end))
        ≡ bind (written (each g) q) (λ v end. some (g a ++ v) end)
    go none = refl
    go (some xs end) = refl

pub many_copied : {A : Type 0} (f : List ℕ → ℕ → Read A) (g : A → List ℕ) (h : List ℕ → ℕ → Read (List ℕ)) (s : List ℕ) →
    ((at : ℕ) → written g (f s at) ≡ h s at) → (n at : ℕ) → written (each g) (many f n s at) ≡ copied h n s at
unfolding many copied each
many_copied f g h s e zero at = refl
many_copied f g h s e (suc n) at =
    many_next g (f s at) (many f n s) (copied h n s) (many_copied f g h s e n)
    ∙ ap (λ (q : Read (List ℕ)). then q (copied h n s)) (e at)

many_length_next : {A : Type 0} (n : ℕ) (q : Read A) (k : ℕ → Read (List A)) (xs : List A) (end : ℕ) →
    ((b : ℕ) (ys : List A) (c : ℕ) → k b ≡ some ys c → length ys ≡ n) →
    bind q (λ a b. bind (k b) (λ ys c. some (a ∷ ys) c)) ≡ some xs end → length xs ≡ suc n
many_length_next n none k xs end h e = cc
many_length_next {A} n (some a b) k xs end h e = go (k b) refl e
  where
    go : (q : Read (List A)) → k b ≡ q → bind q (λ ys c. some (a ∷ ys) c) ≡ some xs end → length xs ≡ suc n
    go none i j = cc
    go (some ys c) i j = let z : xs ≡ a ∷ ys = cc in ap length z ∙ ap suc (h b ys c i)

pub many_length : {A : Type 0} (f : List ℕ → ℕ → Read A) (s : List ℕ) (n at : ℕ) (xs : List A) (end : ℕ) →
    many f n s at ≡ some xs end → length xs ≡ n
unfolding many
many_length f s zero at xs end e = let z : xs ≡ [] = cc in ap length z
many_length f s (suc n) at xs end e = many_length_next n (f s at) (many f n s) xs end (many_length f s n) e

-- ---- where the flags say what follows

module _ (flags : ℕ) (s : List ℕ) (at : ℕ) (out : List ℕ) (o : ℕ) where
  pub rest_none : and flags 1 ≡ 0 → outcome (rest_copied (confined flags) s at) out o ≡ done out o at
  unfolding outcome
  rest_none h = rw (eq-eqb (and flags 1) 0 h, add-zero)

  pub rest_some : (and flags 1 ≡ 0 → ⊥) → outcome (rest_copied (confined flags) s at) out o ≡ outcome (confinement_copied s at) out o
  rest_some h = rw (ne_eqb (and flags 1) 0 h)

-- ---- an identity

identity_words : (s : List ℕ) (n v b : ℕ) →
    bind (many (number 32) n s b) (λ ws end. some (1 ∷ n ∷ (big 6 v ++ each (little 4) ws)) end)
    ≡ then (some (1 ∷ n ∷ big 6 v) b) (copied word_at n s)
identity_words s n v b =
    written_append (1 ∷ n ∷ big 6 v) (each (little 4)) (many (number 32) n s b)
    ∙ ap (λ (x : Read (List ℕ)). bind x (λ w end. some ((1 ∷ n ∷ big 6 v) ++ w) end))
    (many_copied (number 32) (little 4) word_at s (λ a. refl) n b)

pub identity_is : (s : List ℕ) (at : ℕ) →
    packed_identity s at ≡ bind (limited 15 s at)
    (λ n a. bind (number 48 s a) (λ v b. bind (many (number 32) n s b) (λ ws end. some (1 ∷ n ∷ (big 6 v ++ each (little 4) ws)) end)))
unfolding packed_identity
identity_is s at = limited_bind (number 32 s at) 15
    (λ n a. bind (number 48 s a) (λ v b. bind (many (number 32) n s b) (λ ws end. some (1 ∷ n ∷ (big 6 v ++ each (little 4) ws)) end)))

module _ (s : List ℕ) (at : ℕ) (out : List ℕ) (o : ℕ) where
  pub identity_uncounted : None ≡ num_of (limited 15 s at) → outcome (packed_identity s at) out o ≡ refused
  unfolding outcome
  identity_uncounted is = rw (identity_is s at, num_none (limited 15 s at) is)

  module _ (r : Num) (is : Some r ≡ num_of (limited 15 s at)) where
    pub identity_unnamed : None ≡ num_of (number 48 s r.next) → outcome (packed_identity s at) out o ≡ refused
    unfolding outcome
    identity_unnamed k =
        rw (
          identity_is s at,
          num_some (limited 15 s at) r is,
          num_none (number 48 s r.next) k,
        )

    pub identity_done : (t : Num) → Some t ≡ num_of (number 48 s r.next) →
        outcome (packed_identity s at) out o
        ≡ outcome (copied word_at r.value s t.next) (sets out o (1 ∷ r.value ∷ big 6 t.value)) (o + 8)
    unfolding big
    identity_done t k =
        rw (
          identity_is s at,
          num_some (limited 15 s at) r is,
          num_some (number 48 s r.next) t k,
          identity_words s r.value
              t.value t.next,
        )
        (then_some (copied word_at r.value s) out o (1 ∷ r.value ∷ big 6 t.value) t.next)
