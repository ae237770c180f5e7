-- Laws of the way from a listing to its record: what the judge says of it and of the record's length, and the answer within a lent buffer.
-- For `to_record`, `packed_in_room` and
-- `pack`.
-- Assumes nothing.
use Prim.Native.Nat.{ℕ, ◌*◌, ◌<◌, ◌≤◌}
use mathlib.Core.Path.{◌≡◌, sym, ap, ◌∙◌}
use mathlib.Core.List.{List}
use native.Mathlib.Omega.{arith}
use lib.Dec.{T}
use lib.Pow.{are_bytes}
use lib.ListN.{length}
use borrow.Author.Tests.{lt-ltb, le-ltb}
use Rattle.base.specs.Bytes.{u64_at}
use Rattle.base.proofs.EightLaws.{u64_at_in}
use Rattle.sids.proofs.SidLaws.{sid_end_bounds}
use Rattle.records.specs.FlatListing.{read_listing}
use Rattle.records.specs.TokenRecord.{record_of}
use Rattle.records.specs.Converters.{as_record, fitted, refusal, full_result}
use Rattle.records.specs.Packing.{record_bytes, Packable, double_at}
use Rattle.records.proofs.RoundTrip.{listing_form, converted_kept}
use Rattle.records.proofs.PackedLaws.{packed_listing, packed_short, packed_twice, packable_listing}
use Rattle.tokens.specs.Judging.{judged_of, Judged}
use Rattle.tokens.proofs.ConvertLaws.{Taken, judged_taken, judged_refused}

module _ (s : List ℕ) (j : Judged) (bytes : T (are_bytes s)) (is : j ≡ judged_of (read_listing s)) where
  status_is : j.status ≡ (judged_of (read_listing s)).status
  status_is = ap (λ (x : Judged). x.status) is

  taken : j.status ≡ 0 → Taken (read_listing s)
  taken h = judged_taken (read_listing s) (sym status_is ∙ h)

  pub judged_packable : j.status ≡ 0 → Packable s
  judged_packable h =
      let t = taken h in
      let f = listing_form s t.token t.end bytes t.read in
      rw f.0 (packable_listing t.token f.1)

  pub judged_short : j.status ≡ 0 → length (record_bytes s) ≤ 28021
  judged_short h =
      let t = taken h in
      let f = listing_form s t.token t.end bytes t.read in
      rw f.0 (packed_short t.token f.1)

  pub judged_twice : j.status ≡ 0 → length (record_bytes s) ≤ 2 * length s
  judged_twice h =
      let t = taken h in
      let f = listing_form s t.token t.end bytes t.read in
      rw f.0 (packed_twice t.token f.1)

  pub record_of_lem : j.status ≡ 0 → as_record s ≡ full_result (record_bytes s)
  unfolding as_record
  record_of_lem h =
      let t = taken h in
      let f = listing_form s t.token t.end bytes t.read in
      let e : record_bytes s ≡ record_of t.token = ap record_bytes f.0 ∙ packed_listing t.token f.1 in
      converted_kept record_of (read_listing s) t.token t.end t.read t.kept ∙ ap full_result (sym e)

  pub fitted_refused : (room : ℕ) → (j.status ≡ 0 → ⊥) → fitted room (as_record s) ≡ refusal j.status
  unfolding fitted as_record
  fitted_refused room h =
      let r = judged_refused record_of (read_listing s) (λ z. h (status_is ∙ z)) in
      rw (r.0, le-ltb room 0 (omega arith)) (ap refusal (sym status_is))

-- ---- n bytes within a lent buffer

module _ (room n : ℕ) (b : List ℕ) (long : n ≡ length b) where
  pub fitted_longer : room < n → fitted room (full_result b) ≡ refusal 11
  unfolding fitted
  fitted_longer h = rw (lt-ltb room (length b) (omega arith))

  pub fitted_within : n ≤ room → fitted room (full_result b) ≡ full_result b
  unfolding fitted
  fitted_within h = rw (le-ltb room (length b) (omega arith))

-- ---- the privileges of a listing that is packed

pub privileges : (s : List ℕ) → Packable s → u64_at s 4 ≡ double_at s 4
privileges s p = let b = sid_end_bounds s 12 p.crowd.identity in u64_at_in s 4 (omega (arith, b.0, b.1))
