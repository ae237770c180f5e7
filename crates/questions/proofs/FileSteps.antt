-- The ways out of the reader of question files (specs: QuestionFile, Blobs): one for each part that does not stand, and the whole.
-- Assumes nothing.
use Prim.Native.Nat.{ℕ, ◌+◌, ◌≤◌, ◌<◌}
use mathlib.Core.Path.{◌≡◌, refl}
use mathlib.Core.List.{List}
use mathlib.Core.Bool.{Bool, true, false, cond}
use lib.Dec.{ltb}
use lib.ListN.{length}
use borrow.Author.Tests.{lt-ltb, le-ltb, le-leb, lt-leb, eq-eqb, ne_eqb}
use Rattle.base.specs.Bytes.{Read, part}
use Rattle.base.specs.Bytes.Read.{none, some}
use Rattle.base.specs.Sevens.{number}
use Rattle.answers.specs.Granted.{refused}
use Rattle.access.specs.Status.{Question}
use Rattle.access.specs.Reported.{refusal, report_of}
use Rattle.questions.specs.QuestionFile.{blob_at, question_of, answering, file_answer, reporting, file_report}

-- ---- a part

module _ (s : List ℕ) (at : ℕ) where
  pub blob_none : number 32 s at ≡ none → blob_at s at ≡ none
  unfolding blob_at
  blob_none e = rw e

  module _ (n a : ℕ) (e : number 32 s at ≡ some n a) where
    pub blob_short : length s < a + n → blob_at s at ≡ none
    unfolding blob_at
    blob_short l = rw (e, lt-leb (a + n) (length s) l)

    pub blob_stands : a + n ≤ length s → blob_at s at ≡ some (part s a (a + n)) (a + n)
    unfolding blob_at
    blob_stands l = rw (e, le-leb (a + n) (length s) l)

-- ---- the parts one after the other

module _ (s : List ℕ) where
  pub no_kind : number 32 s 0 ≡ none → question_of s ≡ none
  unfolding question_of
  no_kind e = rw e

  module _ (k a : ℕ) (kind : number 32 s 0 ≡ some k a) where
    pub no_mask : number 32 s a ≡ none → question_of s ≡ none
    unfolding question_of
    no_mask e = rw (kind, e)

    module _ (m b : ℕ) (mask : number 32 s a ≡ some m b) where
      pub no_token : blob_at s b ≡ none → question_of s ≡ none
      unfolding question_of
      no_token e = rw (kind, mask, e)

      module _ (t : List ℕ) (c : ℕ) (token : blob_at s b ≡ some t c) where
        pub no_self : blob_at s c ≡ none → question_of s ≡ none
        unfolding question_of
        no_self e = rw (kind, mask, token, e)

        module _ (w : List ℕ) (d : ℕ) (self : blob_at s c ≡ some w d) where
          pub no_descriptor : blob_at s d ≡ none → question_of s ≡ none
          unfolding question_of
          no_descriptor e = rw (kind, mask, token, self, e)

          module _ (x : List ℕ) (f : ℕ) (descriptor : blob_at s d ≡ some x f) where
            pub no_policy : blob_at s f ≡ none → question_of s ≡ none
            unfolding question_of
            no_policy e = rw (kind, mask, token, self, descriptor, e)

            module _ (y : List ℕ) (g : ℕ) (policy : blob_at s f ≡ some y g) where
              pub more_follows : (g ≡ length s → ⊥) → question_of s ≡ none
              unfolding question_of
              more_follows n = rw (kind, mask, token, self, descriptor, policy, ne_eqb g (length s) n)

              pub whole_question : g ≡ length s →
                  question_of s ≡ some (record { kind = k; mask = m; token = t; self = w; descriptor = x; policy = y }) (length s)
              unfolding question_of
              whole_question n = rw (kind, mask, token, self, descriptor, policy, eq-eqb g (length s) n, n)

-- ---- the report on a file, and its answer
module _ (s : List ℕ) where
  pub file_long : 65536 < length s → file_report s ≡ refusal 12
  unfolding file_report
  file_long l = rw (lt-ltb 65536 (length s) l)

  module _ (l : length s ≤ 65536) where
    pub file_misshapen_lem : question_of s ≡ none → file_report s ≡ refusal 12
    unfolding file_report
    file_misshapen_lem e = rw (le-ltb 65536 (length s) l, e)

    pub file_answered : (q : Question) (end : ℕ) → question_of s ≡ some q end → file_report s ≡ report_of q
    unfolding file_report
    file_answered q end e = rw (le-ltb 65536 (length s) l, e)

  pub file_told : (file_report s).answer ≡ file_answer s
  unfolding file_report file_answer report_of
  file_told = go (ltb 65536 (length s)) (question_of s)
    where
      go : (b : Bool) (r : Read Question) → (cond b (refusal 12) (reporting r)).answer ≡ cond b (refused 12) (answering r)
      go true r = refl
      go false none = refl
      go false (some q end) = refl
