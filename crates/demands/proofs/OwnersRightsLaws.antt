-- Request 102, the owner's two rights. The index: what the owner has of them by one list: cut list_keeps list_loses; by all rules:
-- within_both rules_leave rules_narrow rules_cut; by what is found: found_keeps found_by_list found_by_rule; by all that the granted mask
-- goes by: granted_found owner_keeps granted_by owner_loses. Assumes nothing.
use Prim.Native.Nat.{ℕ}
use mathlib.Core.Path.{◌≡◌, refl, ap, ap₂, ◌∙◌}
use mathlib.Core.List.{List, [], ◌∷◌, ◌++◌}
use mathlib.Core.Bool.{Bool, true, false, cond, not, ◌&&◌, and-false}
use lib.Bits as B
use Rattle.base.specs.Bits.{and, or, has, Within}
use Rattle.base.proofs.BitsLaws.{
  and_or_distrib,
  within_refl,
  within_trans,
  and_within,
  and_within_l,
  and_within_r,
  zero_within,
  and_mono,
  or_within,
  or_within_l,
  or_within_r,
}
use Rattle.lists.specs.Descriptor.{owner_of}
use Rattle.records.specs.Token.{Token}
use Rattle.records.specs.Crowd.{Member, crowd_of}
use Rattle.masks.specs.KindsAndMasks.{asked, system_security}
use Rattle.passes.specs.Matching.{stands, hits_of}
use Rattle.passes.specs.NormalEvaluation.{Dacl, listed, names_owner, list_gives, owner_gives, privileges_give, normal_of}
use Rattle.passes.specs.Confinement.{everything, confinement_of}
use Rattle.passes.specs.declared.matching.Hits.{Hits}
use Rattle.policy.specs.Rules.{Lists, rules_of, result_of, unruled, applies_to, narrowed_by, judged_by, ruled_from, ruled_by}
use Rattle.policy.specs.declared.rules.Ruled.{Ruled}
use Rattle.answers.specs.Granted.{answer_of}
use Rattle.access.specs.Evaluated.{found_of}
use Rattle.access.specs.Status.{Question, dacl_in, answer_to, checked}
use Rattle.answers.specs.declared.answer.Answer.{Answer}
use Rattle.demands.specs.Accepted.{Accepted, token_in}
use Rattle.demands.specs.OwnerEntries.{OwnerEntry, GoesBy, OwnerAsks, owners_rights, its_list}
use Rattle.demands.specs.OwnerEntries.GoesBy.{descriptors, rules}
use Rattle.demands.proofs.AcceptedLaws.{accepted_is}
use Rattle.demands.proofs.OwnerEntriesLaws.{named, unnamed}

-- ---- by one list

-- where m has none of k, what is in k and in l or m is in l
cut : (l m k : ℕ) → and m k ≡ 0 → Within (and (or l m) k) l
cut l m k z =
    let apart : and k m ≡ 0 = B.and_comm k m ∙ z in
    rw (B.and_comm (or l m) k, and_or_distrib k l m)
    (or_within (and k l) (and k m) l (and_within_r k l) (rw apart (zero_within l)))

module _ (kind : ℕ) (ms : List Member) (h : Hits) (p : ℕ) (d : Dacl) where
  pub list_keeps : h.owner.allow ≡ true → (OwnerEntry d.entries → ⊥) → Within 0x60000 (normal_of kind ms h p d)
  unfolding normal_of
  list_keeps a none =
      let mine = owner_gives h (names_owner d.entries) in
      let both : mine ≡ 0x60000 = ap₂ (λ (x y : Bool). cond (x && not y) 0x60000 0) a (unnamed d.entries none) in
      within_trans 0x60000 mine _ (rw both (within_refl 0x60000))
      (within_trans mine (or mine (privileges_give p)) _ (or_within_l mine (privileges_give p)) (or_within_r (list_gives kind ms h d) _))

  -- neither privilege gives one of them
  others : (x y : Bool) → and (or 0 (or (cond x 0x80000 0) (cond y system_security 0))) 0x60000 ≡ 0
  others true true = refl
  others true false = refl
  others false true = refl
  others false false = refl

  pub list_loses : OwnerEntry d.entries → Within (and (normal_of kind ms h p d) 0x60000) (list_gives kind ms h d)
  unfolding normal_of
  list_loses o =
      rw (named d.entries o, and-false h.owner.allow)
      (cut (list_gives kind ms h d) _ 0x60000 (others (has p 0x200) (has p 0x100)))

-- ---- by all rules

within_both : (a b c : ℕ) → Within a b → Within a c → Within a (and b c)
within_both a b c f g = within_trans a (and a a) (and b c) (rw (B.and_self a) (within_refl a)) (and_mono a b a c f g)

module _ (kind : ℕ) (ms : List Member) (h : Hits) (p : ℕ) where
  -- one rule leaves no more than its result if it applies, and nothing else
  judged_leaves : (k : ℕ) (st : Ruled) (r : Lists) → Within k st.left.0 →
      (applies_to ms h r ≡ true → Within k (result_of kind ms h p r.effective)) → Within k (judged_by kind ms h p st r).left.0
  unfolding judged_by narrowed_by
  judged_leaves k st r w f = go (applies_to ms h r) f
    where
      go : (b : Bool) → (b ≡ true → Within k (result_of kind ms h p r.effective)) →
          Within k (cond b (narrowed_by kind ms h p st r) st).left.0
      go true f = within_both k _ _ w (f refl)
      go false f = w

  judged_narrows : (st : Ruled) (r : Lists) → Within (judged_by kind ms h p st r).left.0 st.left.0
  unfolding judged_by narrowed_by
  judged_narrows st r = go (applies_to ms h r)
    where
      go : (b : Bool) → Within (cond b (narrowed_by kind ms h p st r) st).left.0 st.left.0
      go true = and_within_l st.left.0 (result_of kind ms h p r.effective)
      go false = within_refl _

  judged_cuts : (st : Ruled) (r : Lists) → applies_to ms h r ≡ true →
      Within (judged_by kind ms h p st r).left.0 (result_of kind ms h p r.effective)
  unfolding judged_by narrowed_by
  judged_cuts st r a = rw a (and_within_r st.left.0 (result_of kind ms h p r.effective))

  rules_leave : (k : ℕ) (rs : List Lists) (st : Ruled) → Within k st.left.0 →
      ((before : List Lists) (r : Lists) (after : List Lists) → rs ≡ before ++ r ∷ after → applies_to ms h r ≡ true →
      Within k (result_of kind ms h p r.effective)) →
      Within k (ruled_from kind ms h p st rs).left.0
  unfolding ruled_from
  rules_leave k [] st w f = w
  rules_leave k (r ∷ rs) st w f =
      rules_leave k rs (judged_by kind ms h p st r) (judged_leaves k st r w (f [] r rs refl))
      (λ before q after e. f (r ∷ before) q after (ap (λ (l : List Lists). r ∷ l) e))

  rules_narrow : (rs : List Lists) (st : Ruled) → Within (ruled_from kind ms h p st rs).left.0 st.left.0
  unfolding ruled_from
  rules_narrow [] st = within_refl _
  rules_narrow (r ∷ rs) st =
      within_trans _ (judged_by kind ms h p st r).left.0 _ (rules_narrow rs (judged_by kind ms h p st r)) (judged_narrows st r)

  rules_cut : (before : List Lists) (r : Lists) (after : List Lists) (st : Ruled) → applies_to ms h r ≡ true →
      Within (ruled_from kind ms h p st (before ++ r ∷ after)).left.0 (result_of kind ms h p r.effective)
  unfolding ruled_from
  rules_cut [] r after st a =
      within_trans _ (judged_by kind ms h p st r).left.0 _ (rules_narrow after (judged_by kind ms h p st r)) (judged_cuts st r a)
  rules_cut (x ∷ before) r after st a = rules_cut before r after (judged_by kind ms h p st x) a

-- ---- by all that the granted mask goes by

module _ (kind : ℕ) (t : Token) (owner self : List ℕ) (d : Dacl) (rs : List Lists) where
  abbrev by : Dacl → ℕ
  by e = normal_of kind (crowd_of t) (hits_of (crowd_of t) owner self) t.privileges e

  found_keeps : stands true (crowd_of t) owner ≡ true → (OwnerEntry d.entries → ⊥) →
      ((before : List Lists) (r : Lists) (after : List Lists) → rs ≡ before ++ r ∷ after →
      applies_to (crowd_of t) (hits_of (crowd_of t) owner self) r ≡ true → OwnerEntry r.effective → ⊥) →
      Within (and 0x60000 (confinement_of kind t owner self d)) (found_of kind t owner self d rs).ruled.0
  unfolding found_of hits_of
  found_keeps o n f =
      let h = hits_of (crowd_of t) owner self in
      let c = confinement_of kind t owner self d in
      within_both (and 0x60000 c) _ _
      (and_mono 0x60000 (by d) c c (list_keeps kind (crowd_of t) h t.privileges d o n) (within_refl c))
      (within_trans (and 0x60000 c) 0x60000 _ (and_within_l 0x60000 c)
      (rules_leave kind (crowd_of t) h t.privileges 0x60000 rs unruled (and_within 0x60000 everything refl)
      (λ before r after e a. list_keeps kind (crowd_of t) h t.privileges (listed r.effective) o (f before r after e a))))

  found_by_list : Within (found_of kind t owner self d rs).ruled.0 (by d)
  unfolding found_of
  found_by_list =
      let c = confinement_of kind t owner self d in
      within_trans _ (and (by d) c) _ (and_within_l (and (by d) c) _) (and_within_l (by d) c)

  found_by_rule : (before : List Lists) (r : Lists) (after : List Lists) → rs ≡ before ++ r ∷ after →
      applies_to (crowd_of t) (hits_of (crowd_of t) owner self) r ≡ true →
      Within (found_of kind t owner self d rs).ruled.0 (by (listed r.effective))
  unfolding found_of
  found_by_rule before r after e a =
      let h = hits_of (crowd_of t) owner self in
      let one = rules_cut kind (crowd_of t) h t.privileges before r after unruled a in
      let left = (ruled_by kind (crowd_of t) h t.privileges (before ++ r ∷ after)).left.0 in
      rw e (within_trans _ left _ (and_within_r (and (by d) (confinement_of kind t owner self d)) left) one)

-- what is granted is found
granted_found : (q : Question) → Accepted q →
    (checked q).granted.0
    ≡ and (asked q.kind q.mask)
    (found_of q.kind (token_in q) (owner_of q.descriptor) q.self (dacl_in q.descriptor) (rules_of q.policy)).ruled.0
unfolding answer_to answer_of
granted_found q a = ap (λ (x : Answer). x.granted.0) (accepted_is q a)

pub owner_keeps : (q : Question) → Accepted q → OwnerAsks q → ((d : Dacl) → GoesBy q d → OwnerEntry d.entries → ⊥) →
    Within (and (asked q.kind q.mask) (owners_rights q)) (checked q).granted.0
owner_keeps q a o none =
    rw (granted_found q a)
    (and_mono (asked q.kind q.mask) (asked q.kind q.mask) (owners_rights q) _ (within_refl _)
    (found_keeps q.kind (token_in q) (owner_of q.descriptor) q.self (dacl_in q.descriptor) (rules_of q.policy) o
    (none (dacl_in q.descriptor) descriptors)
    (λ before r after e b. none (listed r.effective) (rules before r after e b))))

-- the granted mask by a list that it goes by
granted_by : (q : Question) (d : Dacl) → Accepted q → GoesBy q d →
    Within (checked q).granted.0
    (by q.kind (token_in q) (owner_of q.descriptor) q.self (dacl_in q.descriptor) (rules_of q.policy) d)
granted_by q d a descriptors =
    rw (granted_found q a)
    (within_trans _ _ _ (and_within_r (asked q.kind q.mask) _)
    (found_by_list q.kind (token_in q) (owner_of q.descriptor) q.self (dacl_in q.descriptor) (rules_of q.policy)))
granted_by q d a (rules before r after e b) =
    rw (granted_found q a)
    (within_trans _ _ _ (and_within_r (asked q.kind q.mask) _)
    (found_by_rule q.kind (token_in q) (owner_of q.descriptor) q.self (dacl_in q.descriptor) (rules_of q.policy) before r after
    e b))

pub owner_loses : (q : Question) (d : Dacl) → Accepted q → GoesBy q d → OwnerEntry d.entries →
    Within (and (checked q).granted.0 0x60000) (its_list q d)
owner_loses q d a g e =
    let t = token_in q in
    let h = hits_of (crowd_of t) (owner_of q.descriptor) q.self in
    within_trans _ _ _ (and_mono _ _ 0x60000 0x60000 (granted_by q d a g) (within_refl 0x60000))
    (list_loses q.kind (crowd_of t) h t.privileges d e)
