-- The bounds of LimitLaws are reached: a token of the largest shape (largest_listing, largest_record), and one that is accepted
-- (longest_kept, longest_accepted_listing, longest_accepted_record).
-- Assumes nothing.
use Prim.Native.Nat.{ℕ, zero, suc, ◌+◌, ◌-◌, ◌*◌, ◌^◌}
use mathlib.Core.Path.{◌≡◌, refl, ap, ◌∙◌}
use mathlib.Core.List.{List, ◌∷◌}
use mathlib.Core.Bool.{true}
use native.Mathlib.Nat.{mul_comm, mul-suc}
use native.Mathlib.Omega.{arith}
use lib.ListN.{length, length-append, replicate, length-replicate}
use Rattle.base.specs.Bytes.{same, u32_at, u48_be_at}
use Rattle.base.specs.Sevens.{sevens}
use Rattle.base.proofs.ValueLaws.{length_little}
use Rattle.sids.specs.Sid.{sid_end, is_sid}
use Rattle.records.specs.Token.{Group, Token}
use Rattle.records.specs.Shaped.{All, Identity, ShapedGroup, Shaped}
use Rattle.records.specs.Fields.{Writer, each, group_bytes, confinement_bytes, people_bytes, fields_bytes}
use Rattle.records.specs.FlatListing.{listing_of, flat_writer}
use Rattle.records.specs.TokenRecord.{record_of, pack_identity, packed_writer, packed_words}
use Rattle.records.specs.TokenRules.{all_restricted, virtual_group, virtual_in, lists, exempt_alone, virtual_stands, unrestricted, keeps}
use Rattle.records.proofs.LimitLaws.{length_restricted}

-- ---- the bounds are reached

-- n things of one kind
each_replicate : {A : Type 0} (w : A → List ℕ) (n : ℕ) (a : A) → length (each w (replicate n a)) ≡ n * length (w a)
unfolding each
each_replicate w zero a = omega arith
each_replicate w (suc n) a =
    let e : suc n * length (w a) ≡ n * length (w a) + length (w a) =
    mul_comm (suc n) (length (w a)) ∙ mul-suc (length (w a)) n ∙ ap (λ (z : ℕ). z + length (w a)) (mul_comm (length (w a)) n) in
    let h = each_replicate w n a in
    rw (length-append (w a) (each w (replicate n a))) (omega arith)

all_replicate : {A : Type 0} (P : A → Type 0) (n : ℕ) (a : A) → P a → All P (replicate n a)
all_replicate P zero a h = tt
all_replicate P (suc n) a h = (h, all_replicate P n a h)

-- 15 words, each number the largest of its width
pub longest_sid : List ℕ
longest_sid = 1 ∷ 15 ∷ replicate 66 255

longest_sid_lem : Identity longest_sid
unfolding longest_sid is_sid sid_end
longest_sid_lem = record { whole = refl; bytes = tt }

length_longest : length longest_sid ≡ 68
unfolding longest_sid
length_longest = refl

longest_packed : length (pack_identity longest_sid) ≡ 83
unfolding longest_sid pack_identity packed_words sevens u32_at u48_be_at
longest_packed = refl

abbrev pub widest_group : Group
widest_group = record { sid = longest_sid; attributes = 2 ^ 32 - 1 }

pub widest_groups : List Group
widest_groups = replicate 256 widest_group

-- the longest token, with the capabilities given
pub longest_token : List (List ℕ) → Token
longest_token cs =
    record {
      flags = 3;
      privileges = 2 ^ 64 - 1;
      user = longest_sid;
      groups = widest_groups;
      confinement = record { identity = longest_sid; capabilities = cs };
    }

length_widest : length widest_groups ≡ 256
unfolding widest_groups
length_widest = length-replicate 256 widest_group

length_groups : (w : Writer) → length (each (group_bytes w) widest_groups) ≡ 256 * length (group_bytes w widest_group)
unfolding widest_groups
length_groups w = each_replicate (group_bytes w) 256 widest_group

groups_shaped : All ShapedGroup widest_groups
unfolding widest_groups
groups_shaped = all_replicate ShapedGroup 256 widest_group (record { sid = longest_sid_lem; attributes = omega arith })

module _ (cs : List (List ℕ)) (few : length cs ≡ 64) where
  longest_shaped : All Identity cs → Shaped (longest_token cs)
  unfolding longest_token
  longest_shaped o =
      record {
        flags = omega arith;
        privileges = omega arith;
        user = longest_sid_lem;
        few = omega (arith, length_widest);
        groups = groups_shaped;
        confinement = record { identity = longest_sid_lem; few = omega arith; capabilities = o };
      }

  longest_length : (w : Writer) →
      length (fields_bytes w (longest_token cs)) ≡
      length (w.flags 3) + length (w.privileges (2 ^ 64 - 1)) + length (w.identity longest_sid) + length (w.count 256)
      + 256 * (length (w.identity longest_sid) + length (w.attributes (2 ^ 32 - 1)))
      + (length (w.identity longest_sid) + length (w.count 64) + length (each w.identity cs))
  unfolding longest_token fields_bytes people_bytes confinement_bytes
  longest_length w =
      let a : length (w.count (length widest_groups)) ≡ length (w.count 256) = ap (λ (n : ℕ). length (w.count n)) length_widest in
      let b : length (w.count (length cs)) ≡ length (w.count 64) = ap (λ (n : ℕ). length (w.count n)) few in
      let c = length_groups w in
      let d = length-append (w.identity longest_sid) (w.attributes (2 ^ 32 - 1)) in
      simp length-append (omega (arith, a, b, c, d))

  longest_listing : length (listing_of (longest_token cs)) ≡ 18588 + length (each (λ w. w) cs)
  unfolding listing_of
  longest_listing =
      let a = longest_length flat_writer in
      let b = length_little 4 3 in
      let c = length_little 8 (2 ^ 64 - 1) in
      let d = length_little 4 256 in
      let e = length_little 4 (2 ^ 32 - 1) in
      let f = length_little 4 64 in
      let g : length longest_sid ≡ 68 = length_longest in
      omega arith

  longest_record : length (record_of (longest_token cs)) ≡ 22709 + length (each pack_identity cs)
  unfolding record_of sevens
  longest_record =
      let a = longest_length packed_writer in
      let g = longest_packed in
      omega arith

-- by shape
pub largest_listing : length (listing_of (longest_token (replicate 64 longest_sid))) ≡ 22940
largest_listing =
    let a = longest_listing (replicate 64 longest_sid) (length-replicate 64 longest_sid) in
    let b = each_replicate (λ w. w) 64 longest_sid in
    omega (arith, a, b, length_longest)

pub largest_record : length (record_of (longest_token (replicate 64 longest_sid))) ≡ 28021
largest_record =
    let a = longest_record (replicate 64 longest_sid) (length-replicate 64 longest_sid) in
    let b = each_replicate pack_identity 64 longest_sid in
    omega (arith, a, b, longest_packed)

-- accepted: one capability has to be S-1-15-2-2
pub longest_capabilities : List (List ℕ)
longest_capabilities = all_restricted ∷ replicate 63 longest_sid

pub longest_kept : keeps (longest_token longest_capabilities) ≡ true
unfolding longest_capabilities longest_token widest_groups longest_sid
    keeps exempt_alone virtual_stands virtual_group virtual_in unrestricted lists same
longest_kept = refl

pub longest_accepted_listing : length (listing_of (longest_token longest_capabilities)) ≡ 22888
unfolding longest_capabilities each
longest_accepted_listing =
    let few = ap suc (length-replicate 63 longest_sid) in
    let a = longest_listing (all_restricted ∷ replicate 63 longest_sid) few in
    let b = each_replicate (λ w. w) 63 longest_sid in
    omega (arith, a, b, length_longest)

pub longest_accepted_record : length (record_of (longest_token longest_capabilities)) ≡ 27942
unfolding longest_capabilities each
longest_accepted_record =
    let few = ap suc (length-replicate 63 longest_sid) in
    let a = longest_record (all_restricted ∷ replicate 63 longest_sid) few in
    let b = each_replicate pack_identity 63 longest_sid in
    let c = length-append (pack_identity all_restricted) (each pack_identity (replicate 63 longest_sid)) in
    omega (arith, a, b, c, longest_packed, length_restricted)
