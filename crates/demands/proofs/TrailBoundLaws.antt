-- How long the trail of a question may be: never more than 9/16 of the bytes of descriptor and policy together (trail_bound), and so at
-- most 184319 bytes (trail_most).
-- In order: what an accepted question's descriptor and policy are (PartsFit, accepted_parts), how long a SACL, a descriptor and a policy
-- are (sacl_inside, descriptor_short, Sized, policy_sized), the trail.
-- Not here: question files, FileBoundLaws. Assumes nothing.
use Prim.Native.Nat.{ℕ, ◌+◌, ◌*◌, ◌≤◌}
use mathlib.Core.Path.{◌≡◌, refl}
use mathlib.Core.List.{List, []}
use mathlib.Core.Bool.{Bool, true, false, cond}
use native.Mathlib.Omega.{arith}
use lib.Dec.{T, ltb, eqb}
use lib.Pow.{are_bytes}
use lib.ListN.{length}
use borrow.Author.Tests.{ltb-false, eqb-true, eqb-false}
use Rattle.base.specs.Bytes.{Read, byte_at, u16_at, u32_at}
use Rattle.base.specs.Bytes.Read.{none, some}
use Rattle.base.specs.Bits.{has}
use Rattle.base.proofs.BytesLaws.{length_part, bytes_part}
use Rattle.base.proofs.WordsLaws.{u32_at_out}
use Rattle.lists.specs.Descriptor as descriptor
use Rattle.lists.specs.Descriptor.{heading, parts_of, sacl_of}
use Rattle.lists.specs.Descriptor.{Verdict}
use Rattle.lists.specs.Descriptor.{Verdict as verdict}
use Rattle.lists.proofs.DescriptorLaws.{parts_bounds, whole_heading}
use Rattle.records.specs.Token.{Token}
use Rattle.records.specs.Crowd.{Member}
use Rattle.records.specs.TokenRecord.{read_record}
use Rattle.records.specs.TokenRules.{keeps}
use Rattle.masks.specs.KindsAndMasks.{known_kind, legal}
use Rattle.passes.specs.declared.matching.Hits.{Hits}
use Rattle.policy.specs.Policy as policy
use Rattle.policy.specs.Policy.{rules_shaped, rules_unread, standing, standing_of}
use Rattle.policy.specs.Rules.{rules_at, rules_of}
use Rattle.policy.specs.Standing.{Standing}
use Rattle.policy.specs.Standing.Standing.{Sound, Misshapen, Unread}
use Rattle.audit.specs.Events.{events_in, rules_events, events_of}
use Rattle.audit.specs.Trail.{trail_bytes}
use Rattle.audit.specs.declared.firing.Sought.{Sought}
use Rattle.demands.proofs.SaclBoundLaws.{trail_append, sacl_bound, rules_bound}
use Rattle.answers.specs.Granted.{refused}
use Rattle.access.specs.Status.{Question, self_fits, descriptor_number, policy_number, answer_to, after_token, with_token, checked}
use Rattle.access.specs.Status.{events_for}
use Rattle.access.specs.Reported.{report_of, trail_for}
use Rattle.answers.specs.declared.answer.Answer.{Answer}

-- ---- an accepted question

-- its descriptor is whole and its policy is sound
abbrev pub PartsFit : Question → Type 0
PartsFit q = (descriptor_number q.descriptor ≡ 0) × (policy_number q.policy ≡ 0)

module _ (q : Question) where
  after_token_lem : (t : Token) → (after_token q t).status ≡ 0 → PartsFit q
  unfolding after_token
  after_token_lem t h = go (self_fits q.self) (eqb d 0) refl (eqb p 0) refl h
    where
      d : ℕ
      d = descriptor_number q.descriptor

      p : ℕ
      p = policy_number q.policy

      inner : Bool → Bool → Bool → Answer
      inner x y z = cond x (cond y (cond z (answer_to q t) (refused p)) (refused d)) (refused 5)

      go : (x y : Bool) → eqb d 0 ≡ y → (z : Bool) → eqb p 0 ≡ z → (inner x y z).status ≡ 0 → PartsFit q
      go true true e true f k = (eqb-true _ _ e, eqb-true _ _ f)
      go true true e false f k = absurd (eqb-false _ _ f k)
      go true false e z f k = absurd (eqb-false _ _ e k)
      go false y e z f k = absurd (omega arith)

  with_token_lem : (r : Read Token) → (with_token q r).status ≡ 0 → PartsFit q
  with_token_lem none h = absurd (omega arith)
  with_token_lem (some t e) h = go (keeps t) h
    where
      go : (b : Bool) → (cond b (after_token q t) (refused 4)).status ≡ 0 → PartsFit q
      go true k = after_token_lem t k
      go false k = absurd (omega arith)

  pub accepted_parts : (checked q).status ≡ 0 → PartsFit q
  unfolding checked
  accepted_parts h = go (known_kind q.kind) (legal q.kind q.mask) h
    where
      go : (x y : Bool) → (cond x (cond y (with_token q (read_record q.token)) (refused 2)) (refused 1)).status ≡ 0 → PartsFit q
      go true true k = with_token_lem (read_record q.token) k
      go true false k = absurd (omega arith)
      go false y k = absurd (omega arith)

-- ---- the descriptor's SACL

pub sacl_inside : (d : List ℕ) → length (sacl_of d) ≤ length d
sacl_inside d =
    let i = (parts_bounds d).sacl in
    let n = length_part d (parts_of d).sacl.from (parts_of d).sacl.to i.0 i.1 in
    omega (arith, n, i.1)

whole_of : (v : Verdict) → descriptor.number_of v ≡ 0 → v ≡ verdict.Whole
unfolding descriptor.number_of
whole_of verdict.Whole h = refl
whole_of verdict.Misshapen h = absurd (omega arith)
whole_of verdict.Ownerless h = absurd (omega arith)
whole_of verdict.ForeignEntry h = absurd (omega arith)

-- "20 to 65,535 bytes"
pub descriptor_short : (d : List ℕ) → descriptor_number d ≡ 0 → length d ≤ 65535
unfolding heading
descriptor_short d h =
    go (ltb (length d) 20) (ltb 65535 (length d)) refl
    (cond (eqb (byte_at d 0) 1) (has (u16_at d 2) 0x8000) false)
    (whole_heading d (whole_of (parts_of d).verdict h))
  where
    go : (a b : Bool) → ltb 65535 (length d) ≡ b → (r : Bool) → cond a false (cond b false r) ≡ true → length d ≤ 65535
    go true b e r k = let z : ◌≡◌ {A = ℕ} 0 1 = cc in absurd (omega arith)
    go false true e r k = let z : ◌≡◌ {A = ℕ} 0 1 = cc in absurd (omega arith)
    go false false e r k = ltb-false _ _ e

-- ---- the policy

sound_of : (v : Standing) → policy.number_of v ≡ 0 → v ≡ Sound
unfolding policy.number_of
sound_of Sound h = refl
sound_of Misshapen h = absurd (omega arith)
sound_of Unread h = absurd (omega arith)

-- "at most 262,144 bytes; .. rule count u32, at most 256"
pub record Sized (p : List ℕ) : Type 0 where
  pub short : length p ≤ 262144
  pub few : u32_at p 1 ≤ 256

pub policy_sized : (p : List ℕ) → policy_number p ≡ 0 → Sized p
unfolding standing_of
policy_sized p h =
    go
    (eqb (length p) 0) refl
    (ltb 262144 (length p)) refl
    (ltb (length p) 5)
    (eqb (byte_at p 0) 1)
    (ltb 256 (u32_at p 1)) refl
    (sound_of (standing_of p) h)
  where
    go : (a : Bool) → eqb (length p) 0 ≡ a → (b : Bool) → ltb 262144 (length p) ≡ b → (c d e : Bool) → ltb 256 (u32_at p 1) ≡ e →
        cond a Sound
        (cond b Misshapen
        (cond c Misshapen
        (cond d (cond e Misshapen (standing (rules_shaped p (u32_at p 1) 5) (rules_unread p (u32_at p 1) 5))) Misshapen)))
        ≡ Sound → Sized p
    go true ea b eb c d e ee k =
        let z : length p ≡ 0 = eqb-true _ _ ea in
        let u : u32_at p 1 ≡ 0 = u32_at_out p 1 (omega arith) in
        record { short = omega arith; few = omega arith }
    go false ea true eb c d e ee k = let z : ◌≡◌ {A = ℕ} 0 1 = cc in absurd (omega arith)
    go false ea false eb true d e ee k = let z : ◌≡◌ {A = ℕ} 0 1 = cc in absurd (omega arith)
    go false ea false eb false false e ee k = let z : ◌≡◌ {A = ℕ} 0 1 = cc in absurd (omega arith)
    go false ea false eb false true true ee k = let z : ◌≡◌ {A = ℕ} 0 1 = cc in absurd (omega arith)
    go false ea false eb false true false ee k = record { short = ltb-false _ _ eb; few = ltb-false _ _ ee }

-- ---- the trail

module _ (s : Sought) (ms : List Member) (h : Hits) where
  policy_bound : (p : List ℕ) → T (are_bytes p) → u32_at p 1 ≤ 256 →
      16 * length (trail_bytes (rules_events s ms h 1 (rules_of p))) ≤ 9 * length p
  unfolding rules_of rules_events trail_bytes
  policy_bound p b few = go (eqb (length p) 0)
    where
      go : (z : Bool) → 16 * length (trail_bytes (rules_events s ms h 1 (cond z [] (rules_at p (u32_at p 1) 5)))) ≤ 9 * length p
      go true = omega arith
      go false = let r = rules_bound s ms h p b (u32_at p 1) 1 5 (omega arith) in omega (arith, r)

  events_bound : (d p : List ℕ) → T (are_bytes d) → T (are_bytes p) → length d ≤ 65535 → u32_at p 1 ≤ 256 →
      16 * length (trail_bytes (events_of s ms h (sacl_of d) (rules_of p))) ≤ 9 * (length d + length p)
  events_bound d p b c short few =
      let n : length (sacl_of d) ≤ length d = sacl_inside d in
      let x =
      sacl_bound s ms h 0 (omega arith) (sacl_of d) (bytes_part d (parts_of d).sacl.from (parts_of d).sacl.to b) (omega (arith, n)) in
      let y = policy_bound p c few in
      let a = trail_append (events_in s ms h 0 (sacl_of d)) (rules_events s ms h 1 (rules_of p)) in
      omega (arith, n, x, y, a)

module _ (q : Question) (b : T (are_bytes q.descriptor)) (c : T (are_bytes q.policy)) where
  -- a bound that holds without a trail holds with one, if it holds for an accepted question
  answered : (n : ℕ) → ((t : Token) → (checked q).status ≡ 0 → 16 * length (trail_bytes (events_for q t)) ≤ n) →
      16 * length (report_of q).trail ≤ n
  unfolding report_of
  answered n f = go (read_record q.token)
    where
      told : (t : Token) (z : Bool) → eqb (checked q).status 0 ≡ z → 16 * length (cond z (trail_bytes (events_for q t)) []) ≤ n
      told t true e = f t (eqb-true _ _ e)
      told t false e = omega arith

      go : (r : Read Token) → 16 * length (trail_for (checked q) q r) ≤ n
      go none = omega arith
      go (some t end) = told t (eqb (checked q).status 0) refl

  bound_for : (t : Token) → (checked q).status ≡ 0 →
      16 * length (trail_bytes (events_for q t)) ≤ 9 * (length q.descriptor + length q.policy)
  bound_for t h =
      let f = accepted_parts q h in
      events_bound _ _ _ q.descriptor q.policy b c
      (descriptor_short q.descriptor f.0) (policy_sized q.policy f.1).few

  -- a trail never exceeds 9/16 of the bytes of descriptor and policy together
  pub trail_bound : 16 * length (report_of q).trail ≤ 9 * (length q.descriptor + length q.policy)
  trail_bound = answered (9 * (length q.descriptor + length q.policy)) bound_for

  -- of any question
  pub trail_most : length (report_of q).trail ≤ 184319
  trail_most =
      let m : 16 * length (report_of q).trail ≤ 9 * (65535 + 262144) =
      answered (9 * (65535 + 262144)) (λ t h.
      let f = accepted_parts q h in
      let x : length q.descriptor ≤ 65535 = descriptor_short q.descriptor f.0 in
      let y : length q.policy ≤ 262144 = (policy_sized q.policy f.1).short in
      let z = bound_for t h in
      omega (arith, x, y, z)) in
      omega (arith, m)
