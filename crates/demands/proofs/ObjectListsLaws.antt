-- Request 102, lists without their inherit-only entries. The index: names_object skipped_taken run_object; what a list gives: gives_object
-- normal_object; all rules: judged_object ruled_object stages_object; the whole: confinement_object found_object ruled_on_object
-- answer_object. Assumes nothing.
use Prim.Native.Nat.{ℕ}
use mathlib.Core.Path.{◌≡◌, refl, ap, ◌∙◌}
use mathlib.Core.List.{List, [], ◌∷◌, map}
use mathlib.Core.Bool.{Bool, true, false, cond, ◌&&◌, ◌||◌}
use Rattle.base.specs.Bits.{has}
use Rattle.base.specs.Bytes.{same}
use Rattle.sids.specs.Sid.{owner_rights}
use Rattle.lists.specs.Acl.{Entry}
use Rattle.lists.specs.Descriptor.{owner_of}
use Rattle.records.specs.Token.{Token}
use Rattle.records.specs.Crowd.{Member, crowd_of, confined_of}
use Rattle.masks.specs.KindsAndMasks.{all_bits}
use Rattle.masks.specs.TheTally.{emptied}
use Rattle.passes.specs.Matching.{hits_of}
use Rattle.passes.specs.OnePass.{taken, run}
use Rattle.passes.specs.NormalEvaluation.{Dacl, listed, counts, names_owner, list_gives, normal_of}
use Rattle.passes.specs.Confinement.{confinement_of}
use Rattle.passes.specs.declared.matching.Hits.{Hits}
use Rattle.masks.specs.declared.tally.Tally.{Tally}
use Rattle.policy.specs.Rules.{Lists, rules_of, narrowed_by, judged_by, ruled_from}
use Rattle.policy.specs.declared.rules.Ruled.{Ruled}
use Rattle.audit.specs.Events.{rule_stages, stages_audit}
use Rattle.audit.specs.declared.firing.Sought.{Sought}
use Rattle.answers.specs.Granted.{answer_of, flagged}
use Rattle.access.specs.Evaluated.{found_of, sought_of}
use Rattle.access.specs.Status.{Question, dacl_in, answer_to, checked}
use Rattle.answers.specs.declared.answer.Found.{Found}
use Rattle.demands.specs.Accepted.{Accepted, token_in, ruled_on}
use Rattle.demands.specs.OwnerEntries.{of_object, object_list, object_lists, by_object}
use Rattle.demands.proofs.AcceptedLaws.{accepted_is}

names_object : (es : List Entry) → names_owner es ≡ names_owner (of_object es)
unfolding names_owner of_object
names_object [] = refl
names_object (e ∷ es) = go (names_object es) (has e.flags 0x08) refl
  where
    go : names_owner es ≡ names_owner (of_object es) → (b : Bool) → has e.flags 0x08 ≡ b →
        names_owner (e ∷ es) ≡ names_owner (cond b (of_object es) (e ∷ of_object es))
    go rest true k = rw k rest
    go rest false k = ap (λ (b : Bool). cond (counts e && same e.sid owner_rights) true b) rest

module _ (kind : ℕ) (ms : List Member) (h : Hits) where
  skipped_taken : (t : Tally) (e : Entry) → has e.flags 0x08 ≡ true → taken kind ms h t e ≡ t
  unfolding taken
  skipped_taken t e k = rw k

  run_object : (es : List Entry) (t : Tally) → run kind ms h t es ≡ run kind ms h t (of_object es)
  unfolding run of_object
  run_object [] t = refl
  run_object (e ∷ es) t = go (run_object es) (has e.flags 0x08) refl
    where
      go : ((x : Tally) → run kind ms h x es ≡ run kind ms h x (of_object es)) → (b : Bool) → has e.flags 0x08 ≡ b →
          run kind ms h (taken kind ms h t e) es ≡ run kind ms h t (cond b (of_object es) (e ∷ of_object es))
      go rest true k = ap (λ (x : Tally). run kind ms h x es) (skipped_taken t e k) ∙ rest t
      go rest false k = rest (taken kind ms h t e)

  gives_object : (d : Dacl) → list_gives kind ms h d ≡ list_gives kind ms h (object_list d)
  gives_object d = ap (λ (t : Tally). cond d.present t.allowed.0 (all_bits kind)) (run_object d.entries emptied)

  module _ (p : ℕ) where
    normal_object : (d : Dacl) → normal_of kind ms h p d ≡ normal_of kind ms h p (object_list d)
    unfolding normal_of
    normal_object d = rw (gives_object d, names_object d.entries)

    judged_object : (st : Ruled) (r : Lists) → judged_by kind ms h p st r ≡ judged_by kind ms h p st (object_lists r)
    unfolding judged_by narrowed_by
    judged_object st r = rw (normal_object (listed r.effective), normal_object (listed r.staged))

    ruled_object : (rs : List Lists) (st : Ruled) → ruled_from kind ms h p st rs ≡ ruled_from kind ms h p st (map object_lists rs)
    unfolding ruled_from
    ruled_object [] st = refl
    ruled_object (r ∷ rs) st =
        ruled_object rs (judged_by kind ms h p st r)
        ∙ ap (λ (x : Ruled). ruled_from kind ms h p x (map object_lists rs)) (judged_object st r)

confinement_object : (kind : ℕ) (t : Token) (owner self : List ℕ) (d : Dacl) →
    confinement_of kind t owner self d ≡ confinement_of kind t owner self (object_list d)
unfolding confinement_of
confinement_object kind t owner self d = rw (gives_object kind (confined_of t) (hits_of (confined_of t) owner self) d)

found_object : (kind : ℕ) (t : Token) (owner self : List ℕ) (d : Dacl) (rs : List Lists) →
    found_of kind t owner self d rs ≡ found_of kind t owner self (object_list d) (map object_lists rs)
unfolding found_of
found_object kind t owner self d rs =
    let h = hits_of (crowd_of t) owner self in
    let ruled = ruled_object kind (crowd_of t) h t.privileges rs in
    rw (normal_object kind (crowd_of t) h t.privileges d, confinement_object kind t owner self d, ruled _)

-- the SACLs are those of before, and so is their audit
stages_object : (s : Sought) (ms : List Member) (h : Hits) (rs : List Lists) →
    stages_audit s ms h rs ≡ stages_audit s ms h (map object_lists rs)
unfolding stages_audit
stages_object s ms h [] = refl
stages_object s ms h (r ∷ rs) = ap (λ (b : Bool). rule_stages s ms h r || b) (stages_object s ms h rs)

ruled_on_object : (kind mask : ℕ) (t : Token) (owner self : List ℕ) (d : Dacl) (rs : List Lists) →
    ruled_on kind mask t owner self d rs ≡ ruled_on kind mask t owner self (object_list d) (map object_lists rs)
ruled_on_object kind mask t owner self d rs =
    let h = hits_of (crowd_of t) owner self in
    ap (λ (f : Found). flagged (answer_of kind mask f) (stages_audit (sought_of kind mask (answer_of kind mask f)) (crowd_of t) h rs))
    (found_object kind t owner self d rs)
    ∙ ap (flagged (answer_of kind mask (found_of kind t owner self (object_list d) (map object_lists rs)))) (stages_object _ (crowd_of t) h rs)

pub answer_object : (q : Question) → Accepted q → checked q ≡ by_object q
unfolding answer_to
answer_object q a =
    accepted_is q a
    ∙ ruled_on_object q.kind q.mask (token_in q) (owner_of q.descriptor) q.self (dacl_in q.descriptor) (rules_of q.policy)
