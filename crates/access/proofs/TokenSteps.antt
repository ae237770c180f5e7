-- What `list_in` hands to the evaluation: a refusal's number (token_refused), or the bytes of the token's listing with the place of the
-- confinement identity (Held, held); what is found over them (found_whole); how long a listing and its crowds are at most (crowd_few,
-- confined_few, held_limits).
-- Assumes nothing.
use Prim.Native.Nat.{ℕ, ◌≤◌}
use mathlib.Core.Path.{◌≡◌, refl, ap, ◌∙◌}
use mathlib.Core.List.{List, []}
use mathlib.Core.Bool.{Bool, true, false, cond, not}
use native.Mathlib.Omega.{arith}
use lib.ListN.{length, take, length-drop, length-map}
use lib.Dec.{T}
use lib.Pow.{are_bytes}
use Rattle.base.specs.Bytes.{Read}
use Rattle.base.specs.Bytes.Read.{none, some}
use Rattle.base.proofs.PlaceLaws.{Stands}
use Rattle.lists.proofs.ByLengthLaws.{dacl_by_length}
use Rattle.sids.proofs.SidLaws.{sid_end_short}
use Rattle.lists.specs.Descriptor as descriptor
use Rattle.lists.specs.Handed.{refused_by, handed}
use Rattle.lists.specs.declared.descriptor.Descriptor.{Descriptor}
use Rattle.lists.specs.declared.descriptor.Refusal.{Refusal}
use Rattle.lists.specs.declared.descriptor.Refusal.TheVariants as why
use Rattle.lists.specs.Descriptor.{Parts}
use Rattle.lists.specs.Descriptor.{Verdict}
use Rattle.lists.specs.Descriptor.Verdict.{Whole, Ownerless, ForeignEntry}
use Rattle.lists.specs.Descriptor.{Verdict as verdict}
use Rattle.records.specs.Token.{Group, Token, confined}
use Rattle.records.specs.Shaped.{ShapedConfined, Shaped}
use Rattle.records.specs.Fields.{confinement_bytes}
use Rattle.records.specs.TokenRecord.{read_record}
use Rattle.records.specs.TokenRules.{keeps}
use Rattle.records.specs.FlatListing.{flat_writer, listing_of}
use Rattle.records.specs.Crowd.{plain, shown, crowd_at, confined_place}
use Rattle.records.specs.Converters.{converted, full_result, refusal, as_listing}
use Rattle.tokens.specs.Judging.{Judged, judged_of}
use Rattle.records.proofs.RoundTrip.{record_form}
use Rattle.records.proofs.LimitLaws.{listing_short}
use Rattle.records.proofs.CrowdLaws.{confinement_stand, crowd_listed, confined_listed}
use Rattle.lists.specs.Descriptor.{parts_of, owner_of, dacl_of}
use Rattle.policy.specs.Policy as policy
use Rattle.policy.specs.Policy.{standing_of}
use Rattle.policy.specs.Standing.{Standing, judged}
use Rattle.policy.specs.Standing.Standing.{Sound, Misshapen, Unread}
use Rattle.policy.specs.declared.shape.Refusal.{Refusal as Fault}
use Rattle.policy.specs.declared.shape.Refusal.TheVariants as fault
use Rattle.std.specs.Prelude.{Ok, Err}
use Rattle.access.specs.Refusals.{number_of, of_descriptor, of_policy}
use Rattle.policy.specs.Rules.{rules_of}
use Rattle.policy.specs.ByLengths.{rules_by_lengths}
use Rattle.policy.proofs.PolicyLaws.{sound_by_lengths}
use Rattle.access.specs.Status.{descriptor_number, policy_number, dacl_in, findings}
use Rattle.access.specs.Evaluating.{dacl_as, found_in}
use Rattle.answers.specs.declared.answer.Found.{Found}
use Rattle.access.specs.Findings.{Findings, stopped, accepted, findings_of, ListedIn}
use Rattle.tokens.specs.declared.flat.Listed.{Listed}
use Rattle.access.proofs.FindingsLaws.{findings_misshapen, findings_broken}
use Rattle.access.proofs.EvaluatingLaws.{found_listed}

-- only a sound policy has no number
pub number_sound : (v : Standing) → policy.number_of v ≡ 0 → v ≡ Sound
unfolding policy.number_of
number_sound Sound e = refl
number_sound Misshapen e = absurd (omega arith)
number_sound Unread e = absurd (omega arith)

-- nor has a descriptor that is not whole
number_whole : (v : Verdict) → descriptor.number_of v ≡ 0 → v ≡ Whole
unfolding descriptor.number_of
number_whole Whole e = refl
number_whole verdict.Misshapen e = absurd (omega arith)
number_whole Ownerless e = absurd (omega arith)
number_whole ForeignEntry e = absurd (omega arith)

-- the two answers of the judge
abbrev sound : Token → Judged
sound t = record { status = 0; confined_at = confined_place t }

abbrev unsound : Judged
unsound = record { status = 4; confined_at = 0 }

-- the token of an accepted record
pub record Held (s : List ℕ) (r : Listed) (room : List ℕ) : Type 0 where
  pub token : Token
  pub end : ℕ
  pub read : read_record s ≡ some token end
  pub kept : keeps token ≡ true
  pub bytes : take r.length room ≡ listing_of token
  pub place : r.confined_at ≡ confined_place token

pub held : (s : List ℕ) (r : Listed) (room : List ℕ) → ListedIn s room r → 0 ≡ (as_listing s).status → Held s r room
unfolding as_listing judged_of
held s r room o z = go (read_record s) refl z o.bytes o.place
  where
    go : (x : Read Token) → read_record s ≡ x → ◌≡◌ {A = ℕ} 0 (converted listing_of x).status →
        take r.length room ≡ (converted listing_of x).bytes → r.confined_at ≡ (judged_of x).confined_at → Held s r room
    go none e q b p = absurd (omega arith)
    go (some t end) e q b p = by (keeps t) refl q b p
      where
        by : (k : Bool) → keeps t ≡ k → ◌≡◌ {A = ℕ} 0 (cond k (full_result (listing_of t)) (refusal 4)).status →
            take r.length room ≡ (cond k (full_result (listing_of t)) (refusal 4)).bytes →
            r.confined_at ≡ (cond k (sound t) unsound).confined_at → Held s r room
        by true f q' b' p' = record { token = t; end = end; read = e; kept = f; bytes = b'; place = p' }
        by false f q' b' p' = absurd (omega arith)

pub token_refused : (kind : ℕ) (s self d p : List ℕ) (n : ℕ) → n ≡ (as_listing s).status → (n ≡ 0 → ⊥) →
    findings_of kind s self d p ≡ stopped n
unfolding as_listing
token_refused kind s self d p m o n = go (read_record s) refl o
  where
    go : (x : Read Token) → read_record s ≡ x → m ≡ (converted listing_of x).status → findings_of kind s self d p ≡ stopped m
    go none e q = rw q (findings_misshapen kind s self d p e)
    go (some t end) e q = by (keeps t) refl q
      where
        by : (k : Bool) → keeps t ≡ k → m ≡ (cond k (full_result (listing_of t)) (refusal 4)).status →
            findings_of kind s self d p ≡ stopped m
        by true f q' = absurd (n q')
        by false f q' = rw q' (findings_broken kind s self d p t end e f)

-- what reading a descriptor answers has the descriptor's number, and its parts
pub descriptor_refused : (p : Parts) (e : Refusal) → Err e ≡ handed p → number_of (of_descriptor e) ≡ descriptor.number_of p.verdict
unfolding descriptor.number_of
descriptor_refused p e h = go p.verdict h
  where
    d : Descriptor
    d = record { null = p.null; owner = p.owner; group = p.group; sacl = p.sacl; dacl = p.dacl }

    go : (v : Verdict) → Err e ≡ refused_by v d → number_of (of_descriptor e) ≡ descriptor.number_of v
    go Whole h = cc
    go verdict.Misshapen h = let z : e ≡ why.Misshapen = cc in rw z refl
    go Ownerless h = let z : e ≡ why.Ownerless = cc in rw z refl
    go ForeignEntry h = let z : e ≡ why.ForeignEntry = cc in rw z refl

pub record ReadParts (p : Parts) (x : Descriptor) : Type 0 where
  pub whole : descriptor.number_of p.verdict ≡ 0
  pub is : x ≡ record { null = p.null; owner = p.owner; group = p.group; sacl = p.sacl; dacl = p.dacl }

pub descriptor_read : (p : Parts) (x : Descriptor) → Ok x ≡ handed p → ReadParts p x
unfolding descriptor.number_of
descriptor_read p x h = go p.verdict refl h
  where
    d : Descriptor
    d = record { null = p.null; owner = p.owner; group = p.group; sacl = p.sacl; dacl = p.dacl }

    go : (v : Verdict) → p.verdict ≡ v → Ok x ≡ refused_by v d → ReadParts p x
    go Whole q h = let z : x ≡ d = cc in record { whole = rw q refl; is = z }
    go verdict.Misshapen q h = cc
    go Ownerless q h = cc
    go ForeignEntry q h = cc

-- what the judge of a policy answers has the policy's number
pub policy_refused : (v : Standing) (e : Fault) → Err e ≡ judged v → number_of (of_policy e) ≡ policy.number_of v
unfolding policy.number_of
policy_refused Sound e h = cc
policy_refused Misshapen e h = let z : e ≡ fault.Misshapen = cc in rw z refl
policy_refused Unread e h = let z : e ≡ fault.Unread = cc in rw z refl

pub policy_passed : (v : Standing) → Ok tt ≡ judged v → policy.number_of v ≡ 0
unfolding policy.number_of
policy_passed Sound h = refl
policy_passed Misshapen h = cc
policy_passed Unread h = cc

-- what is found over the listing is what the rules say of the token
pub found_whole :
    (kind : ℕ) (s : List ℕ) (r : Listed) (room : List ℕ) (t : Held s r room) → T (are_bytes s) →
    (l owner list self d p : List ℕ) (present : Bool) (f : Found) →
    l ≡ take r.length room →
    owner ≡ owner_of d →
    list ≡ dacl_of d →
    present ≡ not (parts_of d).null →
    descriptor_number d ≡ 0 →
    policy_number p ≡ 0 →
    f ≡ found_in kind l r.confined_at owner self (dacl_as present list) (rules_by_lengths p) →
    f ≡ findings kind t.token self d p
found_whole kind s r room t bytes l owner list self d p present f listing named there null whole sound e =
    let o : Shaped t.token = (record_form s t.token t.end bytes t.read).1 in
    e
    ∙ rw (
      listing ∙ t.bytes,
      t.place,
      named,
      there,
      null,
      dacl_by_length d (number_whole (parts_of d).verdict whole),
      sound_by_lengths p (number_sound (standing_of p) sound),
    )
    (found_listed kind t.token (owner_of d) self (dacl_in d) (rules_of p) o)

-- and it is handed out with the listing's length and the places of owner and SACL
pub findings_made : {f : Found} (g : Found) (t : Token) (d : List ℕ) {n : ℕ} (x : Descriptor) → f ≡ g → n ≡ length (listing_of t) →
    ReadParts (parts_of d) x →
    ◌≡◌ {A = Findings} (record { status = 0; found = f; length = n; owner = x.owner; sacl = x.sacl }) (accepted t d g)
findings_made g t d x e l r = rw (e, l, r.is)

-- ---- how long a listing and its crowds are at most

-- the user and at most 256 groups
pub crowd_few : (t : Token) → Shaped t → length (crowd_at true (listing_of t) 12) ≤ 257
crowd_few t o =
    let m = length-map t.groups (λ (g : Group). shown g.sid g.attributes) in
    rw (crowd_listed t o) (omega (arith, m, o.few))

-- the confinement identity and at most 64 capabilities; nobody where the token is not confined, since the listing ends there
pub confined_few : (t : Token) → Shaped t → length (crowd_at false (listing_of t) (confined_place t)) ≤ 257
unfolding crowd_at confinement_bytes
confined_few t o = go (confined t.flags) refl
  where
    go : (b : Bool) → confined t.flags ≡ b → length (crowd_at false (listing_of t) (confined_place t)) ≤ 257
    go true e =
        let c : ShapedConfined t.confinement = rw e at o.confinement in
        let m = length-map t.confinement.capabilities plain in
        rw (confined_listed t o e) (omega (arith, m, c.few))
    go false e =
        let x : Stands (listing_of t) (confined_place t) (confinement_bytes flat_writer false t.confinement) [] =
        rw e at (confinement_stand t) in
        let l = length-drop (confined_place t) (listing_of t) in
        let z = ap length x.here in
        rw (sid_end_short (listing_of t) (confined_place t) (omega (arith, l, z))) (omega arith)

-- of the listing of an accepted record, as it is handed to the evaluation
pub held_limits : (s : List ℕ) (r : Listed) (room : List ℕ) (t : Held s r room) → T (are_bytes s) → (l : List ℕ) → l ≡ take r.length
    room →
    (length l ≤ 22940) × ((length (crowd_at true l 12) ≤ 257) × (length (crowd_at false l r.confined_at) ≤ 257))
held_limits s r room t bytes l listing =
    let o : Shaped t.token = (record_form s t.token t.end bytes t.read).1 in
    rw (listing ∙ t.bytes, t.place) (listing_short t.token o, (crowd_few t.token o, confined_few t.token o))
