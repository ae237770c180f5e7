-- The packed record as the bytes of its flat listing: each part, read and written, is that part of `Unpacking`.
-- In order: a count and what follows, groups, the confinement, a front before all that is written, the people, the fields.
-- Not here: what the whole record comes to, RecordAnswer. Assumes nothing.
use Prim.Native.Nat.{ℕ}
use mathlib.Core.Path.{◌≡◌, refl, sym, ap, ◌∙◌}
use mathlib.Core.List.{List, ◌++◌, append_assoc}
use mathlib.Core.Bool.{Bool, true, false}
use lib.ListN.{length}
use lib.Dec.{leb}
use Rattle.base.specs.Bytes.{Read, bind, only, little}
use Rattle.base.specs.Bytes.Read.{none, some}
use Rattle.base.specs.Sevens.{number}
use Rattle.records.specs.Token.{Group, Confined, Token, confined}
use Rattle.records.specs.Fields.{many, each, group_at, group_bytes, confinement_at, confinement_bytes, people_at, people_bytes, fields_at}
use Rattle.records.specs.Fields.{fields_bytes}
use Rattle.records.specs.TokenRecord.{packed_identity, packed_reader}
use Rattle.records.specs.FlatListing.{flat_writer, listing_of}
use Rattle.records.specs.Unpacking.{written, then, copied, limited, word_at, member_copied, capabilities_copied, confinement_copied}
use Rattle.records.specs.Unpacking.{rest_copied, groups_copied, people_copied}
use Rattle.records.proofs.UnpackLaws.{limited_bind, many_copied, many_length}

-- ---- a count and what follows it, after a front h

counted_is : {A : Type 0} (most : ℕ) (q : Read ℕ) (k : ℕ → ℕ → Read A) (l : ℕ → ℕ → Read (List ℕ)) (g : A → List ℕ) (h : List ℕ) →
    ((n b : ℕ) → written g (k n b) ≡ bind (l n b) (λ v e. some (h ++ (little 4 n ++ v)) e)) →
    written g (bind q (λ n b. only (leb n most) (k n b)))
    ≡ bind (bind (bind q (λ n b. only (leb n most) (some n b))) (λ n b. then (some (little 4 n) b) (l n))) (λ v e. some (h ++ v) e)
counted_is most none k l g h e = refl
counted_is most (some n b) k l g h e = test (leb n most)
  where
    last : (q : Read (List ℕ)) →
        bind q (λ v e. some (h ++ (little 4 n ++ v)) e) ≡ bind (bind q (λ v e. some (little 4 n ++ v) e)) (λ v e. some (h ++ v) e)
    last none = refl
    last (some v c) = refl

    test : (t : Bool) →
        written g (only t (k n b)) ≡ bind (bind (only t (some n b)) (λ n b. then (some (little 4 n) b) (l n))) (λ v e. some (h ++ v) e)
    test true = e n b ∙ last (l n b)
    test false = refl

-- ---- groups

pub group_is : (s : List ℕ) (at : ℕ) → written (group_bytes flat_writer) (group_at packed_reader s at) ≡ member_copied true s at
unfolding group_at
group_is s at = go (packed_identity s at)
  where
    last : (w : List ℕ) (q : Read ℕ) →
        written (group_bytes flat_writer) (bind q (λ a end. some (record { sid = w; attributes = a }) end))
        ≡ bind (written (little 4) q) (λ v end. some (w ++ v) end)
    last w none = refl
    last w (some a b) = refl

    go : (q : Read (List ℕ)) →
        written (group_bytes flat_writer)
        (bind q (λ w next. bind (number 32 s next) (λ a end. some (record { sid = w; attributes = a }) end)))
        ≡ then q (word_at s)
    go none = refl
    go (some w b) = last w (number 32 s b)

groups_are : (s : List ℕ) (n at : ℕ) →
    written (each (group_bytes flat_writer)) (many (group_at packed_reader) n s at) ≡ copied (member_copied true) n s at
groups_are s n at = many_copied (group_at packed_reader) (group_bytes flat_writer) (member_copied true) s (group_is s) n at

-- ---- the confinement

written_same : (q : Read (List ℕ)) → written (λ w. w) q ≡ q
written_same none = refl
written_same (some w a) = refl

capabilities_are : (s : List ℕ) (n at : ℕ) →
    written (each (λ (w : List ℕ). w)) (many packed_identity n s at) ≡ copied (member_copied false) n s at
capabilities_are s n at = many_copied packed_identity (λ w. w) (member_copied false) s (λ a. written_same (packed_identity s a)) n at

capability_tail : (s w : List ℕ) (n b : ℕ) →
    written (confinement_bytes flat_writer true)
    (bind (many packed_identity n s b) (λ cs end. some (record { identity = w; capabilities = cs }) end))
    ≡ bind (copied (member_copied false) n s b) (λ v e. some (w ++ (little 4 n ++ v)) e)
unfolding confinement_bytes
capability_tail s w n b = go (many packed_identity n s b) (many_length packed_identity s n b) ∙ rw (capabilities_are s n b)
  where
    go : (q : Read (List (List ℕ))) → ((xs : List (List ℕ)) (e : ℕ) → q ≡ some xs e → length xs ≡ n) →
        written (confinement_bytes flat_writer true) (bind q (λ cs end. some (record { identity = w; capabilities = cs }) end))
        ≡ bind (written (each (λ (x : List ℕ). x)) q) (λ v e. some (w ++ (little 4 n ++ v)) e)
    go none h = refl
    go (some xs e) h = rw (h xs e refl)

confinement_is : (c : Bool) (s : List ℕ) (at : ℕ) →
    written (confinement_bytes flat_writer c) (confinement_at packed_reader c s at) ≡ rest_copied c s at
unfolding confinement_at confinement_bytes confinement_copied
confinement_is false s at = refl
confinement_is true s at = go (packed_identity s at)
  where
    k : List ℕ → ℕ → ℕ → Read Confined
    k w n b = bind (many packed_identity n s b) (λ cs end. some (record { identity = w; capabilities = cs }) end)

    go : (q : Read (List ℕ)) →
        written (confinement_bytes flat_writer true) (bind q (λ w a. bind (number 32 s a) (λ n b. only (leb n 64) (k w n b))))
        ≡ then q (capabilities_copied s)
    go none = refl
    go (some w a) =
        counted_is 64 (number 32 s a) (k w) (λ n. copied (member_copied false) n s) (confinement_bytes flat_writer true) w
        (capability_tail s w)

-- ---- a front before all that is written

-- all that g writes of a reading is h and then what f writes of it
record Fronted (g f : Token → List ℕ) (h : List ℕ) (q : Read Token) : Type 0 where
  front : written g q ≡ bind (written f q) (λ v e. some (h ++ v) e)

module _ {g f : Token → List ℕ} {h : List ℕ} where
  fronted_bind : {A : Type 0} (r : Read A) {k : A → ℕ → Read Token} → ((a : A) (b : ℕ) → Fronted g f h (k a b)) → Fronted g f h (bind r k)
  fronted_bind none e = record { front = refl }
  fronted_bind (some a b) e = e a b

  fronted_only : (t : Bool) {q : Read Token} → Fronted g f h q → Fronted g f h (only t q)
  fronted_only true e = e
  fronted_only false e = record { front = refl }

-- ---- the people

module _ (flags p : ℕ) (s : List ℕ) where
  token : List ℕ → List Group → Confined → Token
  token u gs w = record { flags = flags; privileges = p; user = u; groups = gs; confinement = w }

  people_rest : (u : List ℕ) (gs : List Group) (n c : ℕ) → length gs ≡ n →
      written (people_bytes flat_writer) (bind (confinement_at packed_reader (confined flags) s c) (λ w end. some (token u gs w) end))
      ≡ bind (bind (rest_copied (confined flags) s c) (λ v e. some (each (group_bytes flat_writer) gs ++ v) e))
      (λ v e. some (u ++ (little 4 n ++ v)) e)
  unfolding people_bytes token
  people_rest u gs n c h = rw (sym (confinement_is (confined flags) s c)) (go (confinement_at packed_reader (confined flags) s c))
    where
      go : (q : Read Confined) →
          written (people_bytes flat_writer) (bind q (λ w end. some (token u gs w) end))
          ≡ bind (bind (written (confinement_bytes flat_writer (confined flags)) q) (λ v e. some (each (group_bytes flat_writer) gs ++ v) e))
          (λ v e. some (u ++ (little 4 n ++ v)) e)
      go none = refl
      go (some w e) = rw h

  people_tail : (u : List ℕ) (n b : ℕ) →
      written (people_bytes flat_writer)
      (bind (many (group_at packed_reader) n s b)
      (λ gs c. bind (confinement_at packed_reader (confined flags) s c) (λ w end. some (token u gs w) end)))
      ≡ bind (then (copied (member_copied true) n s b) (rest_copied (confined flags) s)) (λ v e. some (u ++ (little 4 n ++ v)) e)
  people_tail u n b =
      go (many (group_at packed_reader) n s b) (many_length (group_at packed_reader) s n b)
      ∙ ap (λ (x : Read (List ℕ)). bind (then x (rest_copied (confined flags) s)) (λ v e. some (u ++ (little 4 n ++ v)) e))
      (groups_are s n b)
    where
      go : (q : Read (List Group)) → ((xs : List Group) (e : ℕ) → q ≡ some xs e → length xs ≡ n) →
          written (people_bytes flat_writer)
          (bind q (λ gs c. bind (confinement_at packed_reader (confined flags) s c) (λ w end. some (token u gs w) end)))
          ≡ bind (then (written (each (group_bytes flat_writer)) q) (rest_copied (confined flags) s)) (λ v e. some (u ++ (little 4 n ++ v)) e)
      go none h = refl
      go (some gs c) h = people_rest u gs n c (h gs c refl)

  people_is : (at : ℕ) → written (people_bytes flat_writer) (people_at packed_reader flags p s at) ≡ people_copied flags s at
  unfolding people_at people_copied token
  people_is at = go (packed_identity s at)
    where
      k : List ℕ → ℕ → ℕ → Read Token
      k u n b = bind (many (group_at packed_reader) n s b)
          (λ gs c. bind (confinement_at packed_reader (confined flags) s c) (λ w end. some (token u gs w) end))

      go : (q : Read (List ℕ)) →
          written (people_bytes flat_writer) (bind q (λ u a. bind (number 32 s a) (λ n b. only (leb n 256) (k u n b))))
          ≡ then q (groups_copied flags s)
      go none = refl
      go (some u a) =
          counted_is 256 (number 32 s a) (k u) (λ n b. then (copied (member_copied true) n s b) (rest_copied (confined flags) s))
          (people_bytes flat_writer) u (people_tail u)

  -- the whole listing: flags and privileges before the people
  listing_front : (at : ℕ) → Fronted listing_of (people_bytes flat_writer) (little 4 flags ++ little 8 p) (people_at packed_reader flags p s at)
  unfolding people_at listing_of fields_bytes
  listing_front at =
      fronted_bind (packed_identity s at) (λ u a.
      fronted_bind (number 32 s a) (λ n b.
      fronted_only (leb n 256) (fronted_bind (many (group_at packed_reader) n s b) (λ gs c.
      fronted_bind (confinement_at packed_reader (confined flags) s c) (λ w e.
      record { front = ap (λ (v : List ℕ). some v e) (sym (append_assoc (little 4 flags) (little 8 p) _)) })))))

  pub listing_is : (at : ℕ) →
      written listing_of (people_at packed_reader flags p s at) ≡ then (some (little 4 flags ++ little 8 p) at) (people_copied flags s)
  listing_is at =
      (listing_front at).front ∙ ap (λ (x : Read (List ℕ)). bind x (λ v e. some ((little 4 flags ++ little 8 p) ++ v) e)) (people_is at)

-- ---- the fields

pub fields_is : (s : List ℕ) (at : ℕ) →
    fields_at packed_reader s at ≡ bind (limited 3 s at) (λ flags a. bind (number 64 s a) (λ p b. people_at packed_reader flags p s b))
unfolding fields_at
fields_is s at = limited_bind (number 32 s at) 3 (λ flags a. bind (number 64 s a) (λ p b. people_at packed_reader flags p s b))
