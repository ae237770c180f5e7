-- Laws of what unpacking says of the token rules.
-- In order: the place after what was written (done_from,
-- word_inside), an identity (count_plain, told_plain), groups (groups_none, groups_more), a token without flags (unflagged,
-- people_keeping). Not here: the whole record, RecordAnswer. Assumes nothing.
use Prim.Native.Nat.{ℕ, zero, suc, ◌+◌, ◌-◌, ◌<◌, ◌≤◌}
use mathlib.Core.Path.{◌≡◌, refl, ap, ◌∙◌}
use mathlib.Core.List.{List, [], ◌∷◌, ◌++◌, append_assoc}
use mathlib.Core.Bool.{Bool, true, false}
use native.Mathlib.Omega.{arith}
use borrow.Author.Tests.{ne_eqb}
use lib.Dec.{leb}
use Rattle.std.specs.Prelude.{Some}
use lib.ListN.{length, take, drop, length-append, length-take}
use lib.Seq.{sets, sets-eq}
use Rattle.base.specs.Bytes.{Read, bind, only, part, same, little, big}
use Rattle.base.specs.Bytes.Read.{none, some}
use Rattle.base.specs.Bits.{and}
use Rattle.base.specs.Sevens.{number, num_of}
use Rattle.base.specs.declared.sevens.Num.{Num}
use Rattle.base.proofs.BytesLaws.{part_at}
use Rattle.base.proofs.SevensSteps.{num_some}
use Rattle.base.proofs.SevensLaws.{number_bounds}
use Rattle.sids.specs.Sid.{virtual}
use Rattle.records.specs.Token.{Group, Token, unconfined}
use Rattle.records.specs.Fields.{many, each, group_at, group_bytes, confinement_at, confinement_bytes, people_at, people_bytes, fields_bytes}
use Rattle.records.specs.TokenRecord.{packed_identity, packed_reader}
use Rattle.records.specs.FlatListing.{flat_writer, listing_of}
use Rattle.records.specs.TokenRules.{virtual_group, virtual_in, exempt_alone, virtual_stands, unrestricted, keeps}
use Rattle.records.specs.Unpacking.{written, copied, outcome, limited, word_at, member_copied}
use Rattle.records.specs.Unpacking.Outcome.{done}
use Rattle.records.specs.Clean.{Such, Plain, PlainGroups, Keeping}
use Rattle.records.proofs.UnpackLaws.{limited_bind, identity_is}
use Rattle.records.proofs.RecordBytes.{group_is}

-- ---- the place after what was written

pub done_from : (q : Read (List ℕ)) (entry : List ℕ) (o : ℕ) (out : List ℕ) (to next : ℕ) → outcome q entry o ≡ done out to next → o ≤ to
unfolding outcome
done_from none entry o out to next e = let z : ◌≡◌ {A = ℕ} 0 1 = cc in absurd (omega arith)
done_from (some w end) entry o out to next e = let p : o + length w ≡ to = cc in omega arith

-- after one word
pub word_inside : (s : List ℕ) (at : ℕ) (entry : List ℕ) (o : ℕ) (out : List ℕ) (to next : ℕ) →
    outcome (copied word_at 1 s at) entry o ≡ done out to next → next ≤ length s
unfolding outcome copied
word_inside s at entry o out to next e = go (number 32 s at) refl e
  where
    go : (q : Read ℕ) → number 32 s at ≡ q →
        outcome (bind (written (little 4) q) (λ w a. some (w ++ []) a)) entry o ≡ done out to next → next ≤ length s
    go none i f = let z : ◌≡◌ {A = ℕ} 0 1 = cc in absurd (omega arith)
    go (some v end) i f = let k : end ≡ next = cc in omega (arith, (number_bounds 32 s at v end i).1)

-- ---- an identity

-- of another count than one
pub count_plain : (s : List ℕ) (at : ℕ) (r : Num) → Some r ≡ num_of (limited 15 s at) → (r.value ≡ 1 → ⊥) →
    Such Plain (packed_identity s at)
unfolding same
count_plain s at r is other =
    rw (identity_is s at, num_some (limited 15 s at) r is) (go (number 48 s r.next))
  where
    last : (v : ℕ) (q : Read (List ℕ)) →
        Such Plain (bind q (λ ws end. some (1 ∷ r.value ∷ (big 6 v ++ each (little 4) ws)) end))
    last v none = tt
    last v (some ws end) = rw (ne_eqb r.value 1 other)

    go : (q : Read ℕ) →
        Such Plain
        (bind q (λ v b. bind (many (number 32) r.value s b) (λ ws end. some (1 ∷ r.value ∷ (big 6 v ++ each (little 4) ws)) end)))
    go none = tt
    go (some v b) = last v (many (number 32) r.value s b)

-- what was written of an identity, told by its bytes
written_part : (entry : List ℕ) (o : ℕ) (w : List ℕ) → o + length w ≤ length entry → part (sets entry o w) o (o + length w) ≡ w
written_part entry o w h =
    let l : length (take o entry) ≡ o = length-take o entry ∙ omega arith in
    let p = part_at (take o entry) w (drop (o + length w) entry) in
    rw (sets-eq w entry o h, append_assoc (take o entry) w (drop (o + length w) entry)) (rw l at p)

pub told_plain : (q : Read (List ℕ)) (entry : List ℕ) (o : ℕ) (out : List ℕ) (to next : ℕ) → outcome q entry o ≡ done out to next →
    to ≤ length entry → virtual (part out o to) ≡ false → Such Plain q
unfolding outcome
told_plain none entry o out to next e h v = tt
told_plain (some w end) entry o out to next e h v =
    let a : out ≡ sets entry o w = cc in
    let b : to ≡ o + length w = cc in
    let x : virtual (part (sets entry o w) o (o + length w)) ≡ false = rw (a, b) at v in
    rw (written_part entry o w (omega arith)) at x

-- ---- groups

group_plain : (s : List ℕ) (at : ℕ) → Such Plain (packed_identity s at) → Such (λ (g : Group). Plain g.sid) (group_at packed_reader s at)
unfolding group_at
group_plain s at h = go (packed_identity s at) h
  where
    last : (w : List ℕ) → Plain w → (q : Read ℕ) →
        Such (λ (g : Group). Plain g.sid) (bind q (λ a end. some (record { sid = w; attributes = a }) end))
    last w h none = tt
    last w h (some a end) = h

    go : (q : Read (List ℕ)) → Such Plain q →
        Such (λ (g : Group). Plain g.sid)
        (bind q (λ w next. bind (number 32 s next) (λ a end. some (record { sid = w; attributes = a }) end)))
    go none h = tt
    go (some w next) h = last w h (number 32 s next)

pub groups_none : (s : List ℕ) (n at : ℕ) → n ≡ 0 → Such PlainGroups (many (group_at packed_reader) n s at)
unfolding many virtual_group
groups_none s n at e = rw e refl

-- a group and those after it
groups_next : (q : Read Group) (k : ℕ → Read (List Group)) (entry : List ℕ) (o : ℕ) (out : List ℕ) (to next : ℕ) →
    outcome (written (group_bytes flat_writer) q) entry o ≡ done out to next → Such (λ (g : Group). Plain g.sid) q →
    Such PlainGroups (k next) → Such PlainGroups (bind q (λ g b. bind (k b) (λ rest end. some (g ∷ rest) end)))
unfolding outcome virtual_group
groups_next none k entry o out to next e h x = tt
groups_next (some g b) k entry o out to next e h x =
    let i : b ≡ next = cc in
    rw i (go (k next) x)
  where
    go : (r : Read (List Group)) → Such PlainGroups r → Such PlainGroups (bind r (λ rest end. some (g ∷ rest) end))
    go none y = tt
    go (some rest end) y = rw h y

pub groups_more : (attrs : Bool) (s : List ℕ) (n at : ℕ) (entry : List ℕ) (o : ℕ) (out : List ℕ) (to next : ℕ) → attrs ≡ true → 0 < n →
    outcome (member_copied attrs s at) entry o ≡ done out to next → Such Plain (packed_identity s at) →
    Such PlainGroups (many (group_at packed_reader) (n - 1) s next) → Such PlainGroups (many (group_at packed_reader) n s at)
unfolding many
groups_more attrs s zero at entry o out to next a h e p x = absurd (omega arith)
groups_more attrs s (suc n) at entry o out to next a h e p x =
    let m : suc n - 1 ≡ n = omega arith in
    let y : Such PlainGroups (many (group_at packed_reader) n s next) = rw m at x in
    let d : outcome (member_copied true s at) entry o ≡ done out to next = rw a at e in
    groups_next (group_at packed_reader s at) (many (group_at packed_reader) n s) entry o out to next
    (ap (λ (q : Read (List ℕ)). outcome q entry o) (group_is s at) ∙ d) (group_plain s at p) y

-- ---- a token without flags

pub unflagged : (flags : ℕ) → flags ≡ 0 → and flags 1 ≡ 0
unflagged flags e = rw e refl

module _ (p : ℕ) (u : List ℕ) (gs : List Group) where
  abbrev bare : Token
  bare = record { flags = 0; privileges = p; user = u; groups = gs; confinement = unconfined }

  bare_keeping : Plain u → PlainGroups gs → Keeping bare
  unfolding keeps exempt_alone virtual_stands unrestricted virtual_in same listing_of fields_bytes people_bytes confinement_bytes little
  bare_keeping a b = record {
    rules = rw (a, b);
    ends = simp length-append (omega arith);
  }

pub people_keeping : (flags p : ℕ) (s : List ℕ) (at : ℕ) (entry : List ℕ) (o : ℕ) (out : List ℕ) (to next : ℕ) (r : Num) → flags ≡ 0 →
    outcome (packed_identity s at) entry o ≡ done out to next → Such Plain (packed_identity s at) →
    Some r ≡ num_of (limited 256 s next) → Such PlainGroups (many (group_at packed_reader) r.value s r.next) →
    Such Keeping (people_at packed_reader flags p s at)
unfolding people_at confinement_at outcome
people_keeping flags p s at entry o out to next r bare-flags e a is b = rw bare-flags (go (packed_identity s at) e a)
  where
    k : List ℕ → ℕ → ℕ → Read Token
    k u n c = bind (many (group_at packed_reader) n s c)
        (λ gs end. some (record { flags = 0; privileges = p; user = u; groups = gs; confinement = unconfined }) end)

    last : (u : List ℕ) → Plain u → (q : Read (List Group)) → Such PlainGroups q →
        Such Keeping
        (bind q (λ gs end. some (record { flags = 0; privileges = p; user = u; groups = gs; confinement = unconfined }) end))
    last u a none y = tt
    last u a (some gs end) y = bare_keeping p u gs a y

    go : (q : Read (List ℕ)) → outcome q entry o ≡ done out to next → Such Plain q →
        Such Keeping (bind q (λ u a. bind (number 32 s a) (λ n b. only (leb n 256) (k u n b))))
    go none i x = tt
    go (some u c) i x =
        let j : c ≡ next = cc in
        rw (j, limited_bind (number 32 s next) 256 (k u), num_some (limited 256 s next) r is)
        (last u x (many (group_at packed_reader) r.value s r.next) b)
