-- Laws of a run over the tokens. `Running` is the loop's invariant: the expression comes to what its bytes from a place on come to, with
-- some operands that the code's state stands for and some number of steps that is enough. One law for each way on or out, for any way of
-- telling tests. Past the end no token stands (step_none). Assumes nothing.
use Prim.Native.Nat.{ℕ, zero, suc, ◌+◌, ◌<◌, ◌≤◌}
use mathlib.Core.Path.{◌≡◌, refl, sym, ap, ◌∙◌}
use mathlib.Core.List.{List, [], ◌∷◌}
use mathlib.Core.Bool.{Bool, true, false}
use native.Mathlib.Omega.{arith}
use lib.ListN.{length, drop}
use borrow.Author.Tests.{eq-eqb, ne_eqb}
use Rattle.std.specs.Prelude.{Result, Ok, Err}
use Rattle.base.specs.Bytes.{byte_at, u32_at}
use Rattle.conditions.specs.Condition.{zeros}
use Rattle.conditions.specs.Condition.{Item, Next, step_at, ended, follow, run_from, outcome_by}
use Rattle.conditions.specs.Condition.Next.{broken, foreign, on}
use Rattle.conditions.specs.Scanning.{Outcome, weighed}
use Rattle.conditions.specs.Scanning.Outcome.{Broken}
use Rattle.conditions.specs.Stack.{word_of, coded, step_of}
use Rattle.conditions.specs.declared.fault.Fault.{Fault}
use Rattle.conditions.specs.declared.fault.Fault.TheVariants as fault
use Rattle.conditions.specs.declared.stack.Stack.{Stack}
use Rattle.conditions.proofs.PaddingLaws.{zeros_end}
use Rattle.conditions.proofs.StackLaws.{word_in}
use Rattle.conditions.proofs.StepLaws.{step_past, on_past}

byte_past : (s : List ℕ) (at : ℕ) → length s ≤ at → byte_at s at ≡ 0
byte_past [] at h = refl
byte_past (x ∷ s) zero h = absurd (omega arith)
byte_past (x ∷ s) (suc at) h = byte_past s at (omega arith)

-- past the end no token stands
pub step_none : (told : Bool) (s : List ℕ) (at : ℕ) (st : List Item) → length s ≤ at → step_at told s at st ≡ foreign
unfolding step_at
step_none told s at st h = rw (byte_past s at h)

pub unopened : (tell : ℕ → List Item → Bool) (s : List ℕ) → (u32_at s 0 ≡ 0x78747261 → ⊥) → outcome_by tell s ≡ Broken
unfolding outcome_by
unopened tell s h = rw (ne_eqb (u32_at s 0) 0x78747261 h)

module _ (tell : ℕ → List Item → Bool) (s : List ℕ) where
  run_from_end : (n at : ℕ) (st : List Item) → length s ≤ at → run_from tell s n at st ≡ ended st
  unfolding run_from
  run_from_end zero at st h = refl
  run_from_end (suc n) at st h = rw (eq-eqb (byte_at s at) 0 (byte_past s at h), zeros_end s at h)

  module _ (n at : ℕ) (st : List Item) where
    run_from_padded : byte_at s at ≡ 0 → zeros (drop at s) ≡ true → run_from tell s (suc n) at st ≡ ended st
    unfolding run_from
    run_from_padded h z = rw (eq-eqb (byte_at s at) 0 h, z)

    run_from_stained : byte_at s at ≡ 0 → zeros (drop at s) ≡ false → run_from tell s (suc n) at st ≡ Broken
    unfolding run_from
    run_from_stained h z = rw (eq-eqb (byte_at s at) 0 h, z)

    run_from_step : (byte_at s at ≡ 0 → ⊥) → run_from tell s (suc n) at st ≡ follow (run_from tell s n) (step_at (tell (byte_at s at) st) s at st)
    unfolding run_from
    run_from_step h = rw (ne_eqb (byte_at s at) 0 h)

  -- the code's stack at a place
  abbrev pub Running : Stack → ℕ → Type 0
  Running m at = (n : ℕ) × ((st : List Item) × ((length s ≤ at + n) × ((m ≡ coded st) × (outcome_by tell s ≡ run_from tell s n at st))))

  pub running_start : (m : Stack) → m ≡ coded [] → u32_at s 0 ≡ 0x78747261 → Running m 4
  unfolding outcome_by
  running_start m k h = (length s, ([], (omega arith, (k, rw (eq-eqb (u32_at s 0) 0x78747261 h)))))

  module _ (m : Stack) (at : ℕ) (run : Running m at) where
    -- what the code ends with
    abbrev pub Ended : Result Bool Fault → Type 0
    Ended r = (st : List Item) → m.word ≡ word_of st → r ≡ weighed (ended st)

    pub running_end : (r : Result Bool Fault) → Ended r → length s ≤ at → r ≡ weighed (outcome_by tell s)
    running_end r f h = go run
      where
        go : Running m at → r ≡ weighed (outcome_by tell s)
        go (n, (st, (l, (k, e)))) = f st (word_in m st k) ∙ ap weighed (sym (e ∙ run_from_end n at st h))

    pub running_padded : (r : Result Bool Fault) → Ended r → at < length s → byte_at s at ≡ 0 → zeros (drop at s) ≡ true →
        r ≡ weighed (outcome_by tell s)
    running_padded r f h b z = go run
      where
        go : Running m at → r ≡ weighed (outcome_by tell s)
        go (zero, (st, (l, (k, e)))) = absurd (omega arith)
        go (suc n, (st, (l, (k, e)))) = f st (word_in m st k) ∙ ap weighed (sym (e ∙ run_from_padded n at st b z))

    pub running_stained : at < length s → byte_at s at ≡ 0 → zeros (drop at s) ≡ false → outcome_by tell s ≡ Broken
    running_stained h b z = go run
      where
        go : Running m at → outcome_by tell s ≡ Broken
        go (zero, (st, (l, (k, e)))) = absurd (omega arith)
        go (suc n, (st, (l, (k, e)))) = e ∙ run_from_stained n at st b z

    -- a step of the code from the place
    abbrev pub Stepped : Result (ℕ × Stack) Fault → Type 0
    Stepped r = (st : List Item) → m ≡ coded st → r ≡ step_of (step_at (tell (byte_at s at) st) s at st)

    pub running_fault : (f : Fault) → Stepped (Err f) → at < length s → (byte_at s at ≡ 0 → ⊥) → Err f ≡ weighed (outcome_by tell s)
    running_fault f step h b = go run
      where
        faulty : (k : ℕ → List Item → Outcome) (x : Next) → Err f ≡ step_of x → Err f ≡ weighed (follow k x)
        faulty k broken q = let same : f ≡ fault.Broken = cc in ap (λ (x : Fault). Err x) same
        faulty k foreign q = let same : f ≡ fault.Foreign = cc in ap (λ (x : Fault). Err x) same
        faulty k (on p t) q = absurd (cc)

        go : Running m at → Err f ≡ weighed (outcome_by tell s)
        go (zero, (st, (l, (k, e)))) = absurd (omega arith)
        go (suc n, (st, (l, (k, e)))) =
            faulty (run_from tell s n) (step_at (tell (byte_at s at) st) s at st) (step st k) ∙ ap weighed (sym (e ∙ run_from_step n at st b))

    module _ (p : ℕ) (next : Stack) (step : Stepped (Ok (p, next))) where
      pub running_past : (at < p) × ((next.from ≤ next.to) × (next.to ≤ length s))
      running_past = go run
        where
          go : Running m at → (at < p) × ((next.from ≤ next.to) × (next.to ≤ length s))
          go (n, (st, (l, (k, e)))) =
              on_past s at p next (step_at (tell (byte_at s at) st) s at st) (step_past s at (tell (byte_at s at) st) st) (step st k)

      pub running_on : at < length s → (byte_at s at ≡ 0 → ⊥) → Running next p
      running_on h b = go run
        where
          follows : (n : ℕ) (x : Next) → Ok (p, next) ≡ step_of x → outcome_by tell s ≡ follow (run_from tell s n) x →
              length s ≤ at + suc n → Running next p
          follows n broken q r l = absurd (cc)
          follows n foreign q r l = absurd (cc)
          follows n (on p' t) q r l =
              let past = running_past in
              let both : ◌≡◌ {A = ℕ × Stack} (p, next) (p', coded t) = cc in
              let same : p ≡ p' = ap (λ (k : ℕ × Stack). k.0) both in
              let kept : next ≡ coded t = ap (λ (k : ℕ × Stack). k.1) both in
              (n, (t, (omega arith, (kept, r ∙ ap (λ (i : ℕ). run_from tell s n i t) (sym same)))))

          go : Running m at → Running next p
          go (zero, (st, (l, (k, e)))) = absurd (omega arith)
          go (suc n, (st, (l, (k, e)))) = follows n (step_at (tell (byte_at s at) st) s at st) (step st k) (e ∙ run_from_step n at st b) l
