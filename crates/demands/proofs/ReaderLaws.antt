-- What a reader of the page expects, over the definitions. The index:
-- identities: same_iff, zero_word_counts. Virtual owner or self: virtual_misses empty_misses owner_misses self_misses.
-- Lists: null_gives empty_gives (a null list and an empty one). 0x01000000: gives_within no_list_gives.
-- Confinement: nothing_given_back confined_loses. Assumes nothing.
use Prim.Native.Nat.{ℕ}
use mathlib.Core.Path.{◌≡◌, refl}
use mathlib.Core.List.{List, [], ◌∷◌}
use mathlib.Core.Bool.{Bool, true, false, cond}
use mathlib.Core.Logic.{◌↔◌}
use native.Mathlib.Omega.{arith}
use Rattle.base.specs.Bytes.{same}
use Rattle.base.specs.Bits.{and, or, bit, Within}
use Rattle.base.proofs.BytesLaws.{same_eq, eq_same}
use Rattle.base.proofs.BitsLaws.{within_refl, within_trans, and_within_l, and_within_r, or_within_l}
use Rattle.lists.specs.Descriptor.{owner_of}
use Rattle.records.specs.Token.{Token}
use Rattle.records.specs.Crowd.{Member, crowd_of}
use Rattle.sids.specs.Sid.{virtual}
use Rattle.masks.specs.KindsAndMasks.{all_bits, asked}
use Rattle.passes.specs.Matching.{stands, hit_of, hits_of}
use Rattle.passes.specs.OnePass.{run, passed}
use Rattle.passes.specs.NormalEvaluation.{Dacl, null_dacl, listed, list_gives, owner_gives, privileges_give, normal_of, names_owner}
use Rattle.passes.specs.Confinement.{confines, confinement_of}
use Rattle.passes.specs.declared.matching.Hit.{Hit}
use Rattle.passes.specs.declared.matching.Hits.{Hits}
use Rattle.masks.proofs.MasksLaws.{all_bits_high, within_false}
use Rattle.passes.proofs.MatchingLaws.{stands_virtual}
use Rattle.passes.proofs.OnePassLaws.{passed_within}
use Rattle.policy.specs.Rules.{Lists, rules_of, ruled_by}
use Rattle.answers.specs.Granted.{answer_of}
use Rattle.access.specs.Evaluated.{found_of}
use Rattle.access.specs.Status.{Question, dacl_in, answer_to, checked}
use Rattle.demands.specs.Accepted.{token_in, by_rules}
use Rattle.demands.proofs.StatusLaws.{granted_cases}

-- ---- "Two identities are equal when these bytes are equal."

pub same_iff : (a b : List ℕ) → same a b ≡ true ↔ a ≡ b
same_iff a b = (same_eq a b, eq_same a b)

-- U is S-1-5-0-7, W is S-1-5-7
abbrev pub U : List ℕ
U = 1 ∷ 2 ∷ 0 ∷ 0 ∷ 0 ∷ 0 ∷ 0 ∷ 5 ∷ 0 ∷ 0 ∷ 0 ∷ 0 ∷ 7 ∷ 0 ∷ 0 ∷ 0 ∷ []

abbrev pub W : List ℕ
W = 1 ∷ 1 ∷ 0 ∷ 0 ∷ 0 ∷ 0 ∷ 0 ∷ 5 ∷ 7 ∷ 0 ∷ 0 ∷ 0 ∷ []

-- no zero word is skipped, and the last words alone decide nothing
pub zero_word_counts : same U W ≡ false
unfolding same
zero_word_counts = refl

-- ---- "an empty self matches nothing, nor does an owner or self that is one of these two"

abbrev pub no_hit : Hit
no_hit = record { allow = false; deny = false }

pub virtual_misses : (ms : List Member) (w : List ℕ) → virtual w ≡ true → hit_of ms w ≡ no_hit
virtual_misses ms w v = rw (stands_virtual true ms w v, stands_virtual false ms w v)

pub empty_misses : (ms : List Member) → hit_of ms [] ≡ no_hit
unfolding stands
empty_misses ms = refl

pub owner_misses : (ms : List Member) (owner self : List ℕ) → virtual owner ≡ true → (hits_of ms owner self).owner ≡ no_hit
unfolding hits_of
owner_misses ms owner self v = virtual_misses ms owner v

pub self_misses : (ms : List Member) (owner self : List ℕ) → virtual self ≡ true → (hits_of ms owner self).me ≡ no_hit
unfolding hits_of
self_misses ms owner self v = virtual_misses ms self v

-- ---- a null list gives the kind's all bits; an empty one only owner's rights and privileges

pub null_gives : (kind : ℕ) (ms : List Member) (h : Hits) (p : ℕ) → Within (all_bits kind) (normal_of kind ms h p null_dacl)
unfolding normal_of
null_gives kind ms h p = or_within_l (all_bits kind) _

pub empty_gives : (kind : ℕ) (ms : List Member) (h : Hits) (p : ℕ) →
    normal_of kind ms h p (listed []) ≡ or (owner_gives h false) (privileges_give p)
unfolding normal_of run names_owner
empty_gives kind ms h p = refl

-- ---- 0x01000000 comes from SeSecurity alone

pub gives_within : (kind : ℕ) (ms : List Member) (h : Hits) (d : Dacl) → Within (list_gives kind ms h d) (all_bits kind)
gives_within kind ms h d = go d.present
  where
    go : (b : Bool) → Within (cond b (passed kind ms h d.entries) (all_bits kind)) (all_bits kind)
    go true = passed_within kind ms h d.entries
    go false = within_refl (all_bits kind)

-- whatever its mask, no entry gives 0x01000000, nor does a null list
pub no_list_gives : (kind : ℕ) (ms : List Member) (h : Hits) (d : Dacl) → bit (list_gives kind ms h d) 24 ≡ false
no_list_gives kind ms h d = within_false _ (all_bits kind) 24 (gives_within kind ms h d) (all_bits_high kind 24 (omega arith))

-- ---- confinement

-- what confinement leaves of a question
abbrev pub confined_to : Question → ℕ
confined_to q = confinement_of q.kind (token_in q) (owner_of q.descriptor) q.self (dacl_in q.descriptor)

found_confined : (kind : ℕ) (t : Token) (owner self : List ℕ) (d : Dacl) (rs : List Lists) →
    Within (found_of kind t owner self d rs).ruled.0 (confinement_of kind t owner self d)
unfolding found_of
found_confined kind t owner self d rs =
    let h = hits_of (crowd_of t) owner self in
    let n = normal_of kind (crowd_of t) h t.privileges d in
    let c = confinement_of kind t owner self d in
    within_trans _ (and n c) c (and_within_l (and n c) (ruled_by kind (crowd_of t) h t.privileges rs).left.0) (and_within_r n c)

rules_confined : (q : Question) → Within (by_rules q (token_in q)).granted.0 (confined_to q)
unfolding answer_to answer_of
rules_confined q =
    within_trans _ _ (confined_to q) (and_within_r (asked q.kind q.mask) _)
    (found_confined q.kind (token_in q) (owner_of q.descriptor) q.self (dacl_in q.descriptor) (rules_of q.policy))

-- no granted bit lies outside what confinement leaves: privileges are not given back after it
pub nothing_given_back : (q : Question) → Within (checked q).granted.0 (confined_to q)
nothing_given_back q = granted_cases q (confined_to q) (rules_confined q)

-- "A null DACL gives the kind's all bits, so 0x01000000 is lost."
pub confined_loses : (q : Question) → confines (token_in q).flags ≡ true → bit (checked q).granted.0 24 ≡ false
unfolding confinement_of
confined_loses q c =
    within_false _ _ 24 (rw c at (nothing_given_back q)) (no_list_gives q.kind _ _ (dacl_in q.descriptor))
