-- The converters' numbers and what they write. The index:
-- conversion_status: the number given is the lowest line that holds. refused_bytes: a refusal has no bytes, so it leaves a buffer as it was
-- (refused_buffer). written, unwritten: what the exported converters leave in the lent buffer and the lent number.
-- Assumes nothing.
use Prim.Native.Nat.{ℕ, ◌+◌, ◌≤◌}
use mathlib.Core.Path.{◌≡◌, refl, sym, ap, ◌∙◌}
use mathlib.Core.List.{List, [], ◌∷◌, ◌++◌}
use mathlib.Core.Bool.{Bool, true, false, cond, not}
use native.Mathlib.Nat.{zero-add}
use native.Mathlib.Omega.{arith}
use lib.ListN.{length, drop}
use lib.Seq.{sets, sets-eq}
use lib.Dec.{ltb}
use borrow.Author.Tests.{ltb-false, le-ltb}
use Rattle.base.specs.Bytes.{Read}
use Rattle.base.specs.Bytes.Read.{none, some}
use Rattle.records.specs.Token.{Token}
use Rattle.records.specs.TokenRules.{keeps}
use Rattle.records.specs.TokenRecord.{read_record, record_of}
use Rattle.records.specs.FlatListing.{read_listing, listing_of}
use Rattle.records.specs.Converters.{Conversion, refusal, full_result, converted, as_listing, as_record, fitted}
use Rattle.pirasteh.specs.Told.{Handed}
use Rattle.demands.specs.Conditions.{◌when◌, lowest, misshapen, breaks}
use Rattle.demands.specs.Conversions.{Way, conversion, conversion_into, conversion_conditions, Written, Untouched}
use Rattle.demands.specs.Conversions.Way.{record_to_listing, listing_to_record}

-- ---- the numbers

-- no room is too short for nothing
none_long : (room : ℕ) → ltb room 0 ≡ false
none_long room = le-ltb room 0 (omega arith)

module _ (room : ℕ) (f : Token → List ℕ) where
  converted_status : (r : Read Token) →
      (fitted room (converted f r)).status
      ≡ lowest ((3 when misshapen r) ∷ (4 when breaks r) ∷ (11 when ltb room (length (converted f r).bytes)) ∷ [])
  unfolding fitted lowest
  converted_status none = rw (none_long room)
  converted_status (some t end) = go (keeps t)
    where
      whole : (b : Bool) → (cond b (refusal 11) (full_result (f t))).status ≡ cond b 11 0
      whole true = refl
      whole false = refl

      go : (b : Bool) →
          (fitted room (cond b (full_result (f t)) (refusal 4))).status
          ≡ lowest ((3 when false) ∷ (4 when not b) ∷ (11 when ltb room (length (cond b (full_result (f t)) (refusal 4)).bytes)) ∷ [])
      go true = whole (ltb room (length (f t)))
      go false = rw (none_long room)

  converted_refused : (r : Read Token) → ((fitted room (converted f r)).status ≡ 0 → ⊥) → (fitted room (converted f r)).bytes ≡ []
  unfolding fitted
  converted_refused none h = rw (none_long room)
  converted_refused (some t end) h = go (keeps t) h
    where
      whole : (b : Bool) → ((cond b (refusal 11) (full_result (f t))).status ≡ 0 → ⊥) → (cond b (refusal 11) (full_result (f t))).bytes ≡ []
      whole true h = refl
      whole false h = absurd (h refl)

      go : (b : Bool) → ((fitted room (cond b (full_result (f t)) (refusal 4))).status ≡ 0 → ⊥) →
          (fitted room (cond b (full_result (f t)) (refusal 4))).bytes ≡ []
      go true h = whole (ltb room (length (f t))) h
      go false h = rw (none_long room)

pub conversion_status : (room : ℕ) (way : Way) (s : List ℕ) → (conversion_into room way s).status ≡ lowest (conversion_conditions room way s)
unfolding as_listing as_record
conversion_status room record_to_listing s = converted_status room listing_of (read_record s)
conversion_status room listing_to_record s = converted_status room record_of (read_listing s)

-- ---- what is written

pub refused_bytes : (room : ℕ) (way : Way) (s : List ℕ) → ((conversion_into room way s).status ≡ 0 → ⊥) → (conversion_into room way s).bytes ≡ []
unfolding as_listing as_record
refused_bytes room record_to_listing s = converted_refused room listing_of (read_record s)
refused_bytes room listing_to_record s = converted_refused room record_of (read_listing s)

pub refused_buffer : (way : Way) (s before : List ℕ) → ((conversion_into (length before) way s).status ≡ 0 → ⊥) →
    sets before 0 (conversion_into (length before) way s).bytes ≡ before
refused_buffer way s before h = ap (sets before 0) (refused_bytes (length before) way s h)

fitted_whole : (room : ℕ) (c : Conversion) → (fitted room c).status ≡ 0 → (fitted room c ≡ c) × (length c.bytes ≤ room)
unfolding fitted
fitted_whole room c h = go (ltb room (length c.bytes)) refl h
  where
    go : (b : Bool) → ltb room (length c.bytes) ≡ b → (cond b (refusal 11) c).status ≡ 0 →
        (cond b (refusal 11) c ≡ c) × (length c.bytes ≤ room)
    go true p h = absurd (omega arith)
    go false p h = (refl, ltb-false room (length c.bytes) p)

pub written : (way : Way) (s before after : List ℕ) (n r : ℕ) → Handed (conversion_into (length before) way s) before after n r → r ≡ 0 →
    Written (conversion way s).bytes before after n
written way s before after n r h z =
    let w = fitted_whole (length before) (conversion way s) (sym h.status ∙ z) in
    let b = (conversion way s).bytes in
    let room : 0 + length b ≤ length before = omega (arith, w.1) in
    record {
      count = h.written ∙ ap (λ (c : Conversion). length c.bytes) w.0;
      buffer =
          h.buffer
          ∙ ap (λ (c : Conversion). sets before 0 c.bytes) w.0
          ∙ sets-eq b before 0 room
          ∙ ap (λ (k : ℕ). b ++ drop k before) (zero-add (length b));
    }

pub unwritten : (way : Way) (s before after : List ℕ) (n r : ℕ) → Handed (conversion_into (length before) way s) before after n r →
    (r ≡ 0 → ⊥) → Untouched before after n
unwritten way s before after n r h z =
    let e = refused_bytes (length before) way s (λ q. z (h.status ∙ q)) in
    record { count = h.written ∙ ap length e; buffer = h.buffer ∙ ap (sets before 0) e }
