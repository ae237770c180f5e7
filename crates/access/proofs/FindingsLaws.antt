-- Laws of findings (specs: Findings). `number_some`: a refusal has a number. `token_number`: the numbers of a token's
-- record are the page's. `findings-..`: the ways out of `findings_in`, one for each number, and what is found. `Taken`: a
-- question for which something is found. `past_stopped`, `past_taken`: the report on a question (specs: Reported) is read off what is
-- found, whatever the mask. `report-..`: kind and mask come before it.
-- Assumes nothing.
use Prim.Native.Nat.{ℕ}
use mathlib.Core.Path.{◌≡◌, refl, sym, ap, ◌∙◌}
use mathlib.Core.List.{List, []}
use mathlib.Core.Bool.{Bool, true, false, cond}
use native.Mathlib.Omega.{arith}
use lib.Dec.{eqb}
use borrow.Author.Tests.{eq-eqb, ne_eqb, eqb-true, eqb-false}
use Rattle.base.specs.Bytes.{Read}
use Rattle.base.specs.Bytes.Read.{none, some}
use Rattle.records.specs.Token.{Token}
use Rattle.records.specs.TokenRecord.{read_record}
use Rattle.records.specs.TokenRules.{keeps}
use Rattle.masks.specs.KindsAndMasks.{known_kind, legal}
use Rattle.audit.specs.Trail.{trail_bytes}
use Rattle.answers.specs.Granted.{answer_of, refused}
use Rattle.access.specs.Status.{Question, self_fits, descriptor_number, policy_number, findings, events_for}
use Rattle.access.specs.Status.{answer_to, after_token, with_token, checked}
use Rattle.access.specs.Reported.{report, refusal, trail_for, report_of, report_past}
use Rattle.tokens.specs.Answers.{number_of as token_number_of}
use Rattle.tokens.specs.declared.refusal.Refusal.{Refusal as TokenRefusal}
use Rattle.tokens.specs.declared.refusal.Refusal.TheVariants as token
use Rattle.access.specs.Refusals.{number_of, of_token}
use Rattle.access.specs.declared.question.Refusal.{Refusal}
use Rattle.access.specs.declared.question.Refusal.TheVariants.{UnknownKind, ForeignMask, TokenMisshapen, TokenBreaksRule, SelfUnfit}
use Rattle.access.specs.declared.question.Refusal.TheVariants.{DescriptorMisshapen, Ownerless, ForeignEntry, PolicyMisshapen, PolicyUnread}
use Rattle.access.specs.declared.question.Refusal.TheVariants.{TooLong, FileMisshapen}
use Rattle.access.specs.Findings.{Findings, stopped, accepted, found_after, findings_of, findings_for}
use Rattle.answers.specs.declared.answer.Answer.{Answer}

-- a refusal has a number
pub number_some : (r : Refusal) → (number_of r ≡ 0 → ⊥)
number_some UnknownKind e = absurd (omega arith)
number_some ForeignMask e = absurd (omega arith)
number_some TokenMisshapen e = absurd (omega arith)
number_some TokenBreaksRule e = absurd (omega arith)
number_some SelfUnfit e = absurd (omega arith)
number_some DescriptorMisshapen e = absurd (omega arith)
number_some Ownerless e = absurd (omega arith)
number_some ForeignEntry e = absurd (omega arith)
number_some PolicyMisshapen e = absurd (omega arith)
number_some PolicyUnread e = absurd (omega arith)
number_some TooLong e = absurd (omega arith)
number_some FileMisshapen e = absurd (omega arith)

-- those of a token's record have the same numbers
pub token_number : (e : TokenRefusal) → number_of (of_token e) ≡ token_number_of e
token_number token.Misshapen = refl
token_number token.BreaksRule = refl
token_number token.TooLong = refl

-- ---- the ways out of `findings_in`

module _ (kind : ℕ) (token self d p : List ℕ) where
  pub findings_misshapen : read_record token ≡ none → findings_of kind token self d p ≡ stopped 3
  unfolding findings_of
  findings_misshapen e = rw e

  module _ (t : Token) (end : ℕ) (read : read_record token ≡ some t end) where
    pub findings_broken : keeps t ≡ false → findings_of kind token self d p ≡ stopped 4
    unfolding findings_of
    findings_broken e = rw (read, e)

    module _ (kept : keeps t ≡ true) where
      pub findings_self : self_fits self ≡ false → findings_of kind token self d p ≡ stopped 5
      unfolding findings_of found_after
      findings_self e = rw (read, kept, e)

      module _ (fits : self_fits self ≡ true) where
        pub findings_descriptor : (descriptor_number d ≡ 0 → ⊥) → findings_of kind token self d p ≡ stopped (descriptor_number d)
        unfolding findings_of found_after
        findings_descriptor e = rw (read, kept, fits, ne_eqb (descriptor_number d) 0 e)

        module _ (whole : descriptor_number d ≡ 0) where
          pub findings_policy : (policy_number p ≡ 0 → ⊥) → findings_of kind token self d p ≡ stopped (policy_number p)
          unfolding findings_of found_after
          findings_policy e = rw (read, kept, fits, eq-eqb (descriptor_number d) 0 whole, ne_eqb (policy_number p) 0 e)

          pub findings_found : policy_number p ≡ 0 → findings_of kind token self d p ≡ accepted t d (findings kind t self d p)
          unfolding findings_of found_after
          findings_found e = rw (read, kept, fits, eq-eqb (descriptor_number d) 0 whole, eq-eqb (policy_number p) 0 e)

-- ---- a question for which something is found

pub record Taken (q : Question) (f : Findings) : Type 0 where
  pub token : Token
  pub end : ℕ
  pub read : read_record q.token ≡ some token end
  pub kept : keeps token ≡ true
  pub whole : descriptor_number q.descriptor ≡ 0
  pub sound : policy_number q.policy ≡ 0
  pub is : f ≡ accepted token q.descriptor (findings q.kind token q.self q.descriptor q.policy)

-- what is found of a question, and its answer past kind and mask: refused with one number, or taken
data Outcome (q : Question) (f : Findings) (a : Answer) : Type 0 where
  ended : (n : ℕ) → (n ≡ 0 → ⊥) → f ≡ stopped n → a ≡ refused n → Outcome q f a
  went_on : (t : Taken q f) → a ≡ answer_to q t.token → Outcome q f a

module _ (q : Question) (t : Token) where
  after_self : self_fits q.self ≡ false → after_token q t ≡ refused 5
  unfolding after_token
  after_self e = rw e

  after_descriptor : self_fits q.self ≡ true → (descriptor_number q.descriptor ≡ 0 → ⊥) →
      after_token q t ≡ refused (descriptor_number q.descriptor)
  unfolding after_token
  after_descriptor e n = rw (e, ne_eqb (descriptor_number q.descriptor) 0 n)

  after_policy : self_fits q.self ≡ true → descriptor_number q.descriptor ≡ 0 → (policy_number q.policy ≡ 0 → ⊥) →
      after_token q t ≡ refused (policy_number q.policy)
  unfolding after_token
  after_policy e w n = rw (e, eq-eqb (descriptor_number q.descriptor) 0 w, ne_eqb (policy_number q.policy) 0 n)

  after_all : self_fits q.self ≡ true → descriptor_number q.descriptor ≡ 0 → policy_number q.policy ≡ 0 →
      after_token q t ≡ answer_to q t
  unfolding after_token
  after_all e w s = rw (e, eq-eqb (descriptor_number q.descriptor) 0 w, eq-eqb (policy_number q.policy) 0 s)

outcome : (q : Question) → Outcome q (findings_for q) (with_token q (read_record q.token))
outcome q = go (read_record q.token) refl
  where
    d : List ℕ
    d = q.descriptor

    go : (r : Read Token) → read_record q.token ≡ r → Outcome q (findings_for q) (with_token q r)
    go none e = ended 3 (λ z. omega arith) (findings_misshapen q.kind q.token q.self d q.policy e) refl
    go (some t end) e = keeping (keeps t) refl
      where
        keeping : (k : Bool) → keeps t ≡ k → Outcome q (findings_for q) (cond k (after_token q t) (refused 4))
        keeping false g = ended 4 (λ z. omega arith) (findings_broken q.kind q.token q.self d q.policy t end e g) refl
        keeping true g = fitting (self_fits q.self) refl
          where
            fitting : (a : Bool) → self_fits q.self ≡ a → Outcome q (findings_for q) (after_token q t)
            fitting false x =
                ended 5 (λ z. omega arith) (findings_self q.kind q.token q.self d q.policy t end e g x) (after_self q t x)
            fitting true x = standing (eqb (descriptor_number d) 0) refl
              where
                standing : (b : Bool) → eqb (descriptor_number d) 0 ≡ b → Outcome q (findings_for q) (after_token q t)
                standing false y =
                    let n = eqb-false _ _ y in
                    ended (descriptor_number d) n (findings_descriptor q.kind q.token q.self d q.policy t end e g x n)
                    (after_descriptor q t x n)
                standing true y = ruling (eqb (policy_number q.policy) 0) refl
                  where
                    w : descriptor_number d ≡ 0
                    w = eqb-true _ _ y

                    ruling : (c : Bool) → eqb (policy_number q.policy) 0 ≡ c → Outcome q (findings_for q) (after_token q t)
                    ruling false z =
                        let n = eqb-false _ _ z in
                        ended (policy_number q.policy) n
                        (findings_policy q.kind q.token q.self d q.policy t end e g x w n)
                        (after_policy q t x w n)
                    ruling true z =
                        let s = eqb-true _ _ z in
                        went_on
                        (record {
                          token = t;
                          end = end;
                          read = e;
                          kept = g;
                          whole = w;
                          sound = s;
                          is = findings_found q.kind q.token q.self d q.policy t end e g x w s;
                        })
                        (after_all q t x w s)

-- ---- the report is read off what is found

-- a refused question has no trail
trail_none : (n : ℕ) (q : Question) (r : Read Token) → (n ≡ 0 → ⊥) → trail_for (refused n) q r ≡ []
trail_none n q none h = refl
trail_none n q (some t end) h = rw (ne_eqb n 0 h)

told : (q : Question) (a : Answer) (n : ℕ) → a ≡ refused n → (n ≡ 0 → ⊥) → report a (trail_for a q (read_record q.token)) ≡ refusal n
told q a n e h =
    ap (λ (x : Answer). report x (trail_for x q (read_record q.token))) e
    ∙ ap (report (refused n)) (trail_none n q (read_record q.token) h)

module _ (q : Question) where
  pub past_stopped : (f : Findings) → f ≡ findings_for q → (f.status ≡ 0 → ⊥) → report_past q ≡ refusal f.status
  unfolding report_past
  past_stopped f e n = go (outcome q)
    where
      go : Outcome q (findings_for q) (with_token q (read_record q.token)) →
          report (with_token q (read_record q.token)) (trail_for (with_token q (read_record q.token)) q (read_record q.token))
          ≡ refusal f.status
      go (ended m h g a) = told q _ m a h ∙ ap refusal (sym (ap (λ (x : Findings). x.status) (e ∙ g)))
      go (went_on t a) = absurd (n (ap (λ (x : Findings). x.status) (e ∙ t.is)))

  pub record Reports (f : Findings) : Type 0 where
    pub taken : Taken q f
    pub told : report_past q ≡ report (answer_to q taken.token) (trail_bytes (events_for q taken.token))

  pub past_taken : (f : Findings) → f ≡ findings_for q → f.status ≡ 0 → Reports f
  unfolding report_past answer_to answer_of
  past_taken f e n = rw e (go (outcome q))
    where
      go : Outcome q (findings_for q) (with_token q (read_record q.token)) → Reports (findings_for q)
      go (ended m h g a) = absurd (h (sym (ap (λ (x : Findings). x.status) (e ∙ g)) ∙ n))
      go (went_on t a) = record { taken = t; told = rw (a, t.read) refl }

  -- kind and mask come first
  pub report_kind : known_kind q.kind ≡ false → report_of q ≡ refusal 1
  unfolding report_of checked
  report_kind k = told q (checked q) 1 (rw k refl) (λ z. omega arith)

  module _ (k : known_kind q.kind ≡ true) where
    pub report_mask : legal q.kind q.mask ≡ false → report_of q ≡ refusal 2
    unfolding report_of checked
    report_mask l = told q (checked q) 2 (rw (k, l) refl) (λ z. omega arith)

    pub report_past_lem : legal q.kind q.mask ≡ true → report_of q ≡ report_past q
    unfolding report_of report_past checked
    report_past_lem l = rw (k, l)
