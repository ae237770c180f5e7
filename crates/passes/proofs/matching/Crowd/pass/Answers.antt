-- `pass` meets its contract. The invariant of the entries: the walk from here on, with this tally, answers as the whole walk does; that of
-- the search: the chain from this number on has the SID where those shown have it. The measures are the entries left and the number.
-- Assumes nothing.
use Prim.Native.Nat.{ℕ, ◌+◌, ◌-◌, ◌<◌, ◌≤◌}
use mathlib.Core.Bool.{Bool, ◌&&◌, ◌||◌}
use mathlib.Core.List.{List, []}
use mathlib.Core.Path.{◌≡◌, refl, sym, ap, ◌∙◌}
use native.Mathlib.Omega.{arith}
use borrow.Author.Rules.{rules}
use borrow.Author.Tests.{not-true, not-false}
use lib.Dec.{eqb}
use lib.ListN.{length}
use Rattle.base.specs.Bits.{has}
use Rattle.base.specs.Bytes.{same, part}
use Rattle.conditions.specs.Membership.{admits}
use Rattle.lists.specs.Acl.{Entry, condition_of, entry_of}
use Rattle.lists.specs.ByLength.{entries_by_length_at, entries_by_length}
use Rattle.sids.specs.Sid.{owner_rights}
use Rattle.lists.specs.declared.acl.Ace.{Ace}
use Rattle.records.specs.Crowd.{Member}
use Rattle.masks.specs.TheTally.{idle}
use Rattle.masks.specs.declared.tally.Tally.{Tally}
use Rattle.passes.specs.Chains.{near}
use Rattle.passes.specs.Crowds.{shown_in}
use Rattle.passes.specs.Matching.{among}
use Rattle.passes.specs.NormalEvaluation.{counts}
use Rattle.passes.specs.OnePass.{allows, member, taken}
use Rattle.passes.specs.OneWalk.{walked_from, walked_of}
use Rattle.passes.specs.declared.matching.Hits.{Hits}
use Rattle.passes.proofs.ChainsLaws.{among_start, chain_none, chain_hit, chain_near, chain_more, far_below}
use Rattle.passes.proofs.MatchingLaws.{matches_virtual, matches_among}
use Rattle.passes.proofs.WalkSteps.{taken_idle, taken_skipped, taken_missed, taken_full, taken_by}
use Rattle.passes.proofs.WalkSteps.{names_skipped, names_other, names_counted, entries_end}
use Rattle.lists.proofs.EntrySteps.{stands_not, stands_is}
use Rattle.passes.proofs.WalkSteps.{entry_stands, entries_bad, walk_start, walk_end, walk_on}
use Rattle.passes.proofs.matching.Crowd.pass.Goals as goal
use Rattle.passes.proofs.matching.Crowd.pass.Goals.{Else-is_near, In-Some, Joined-n-eq0, then-n-eq0, else-n-eq0+then-sits, else-n-eq0+else-sits+then-is_near, else-entries-test, then-entries-test+in_default}

-- ---- what is known where an entry stands
abbrev Standing : Type 0
Standing = In-Some

abbrev kind_of : Standing → ℕ
kind_of p = p.args.kind

abbrev list_of : Standing → List ℕ
list_of p = p.args.list.now

abbrev hits_of_lem : Standing → Hits
hits_of_lem p = p.args.self.hits

abbrev crowd_of_lem : Standing → List Member
crowd_of_lem p = shown_in p.args.self

abbrev count_of : Standing → ℕ
count_of p = p.u16_at-entries.result

abbrev turn_of : Standing → ℕ
turn_of p = p.entries.counter

abbrev tally_of : Standing → Tally
tally_of p = p.entries.t

abbrev named_of : Standing → Bool
named_of p = p.entries.named

abbrev ace_of : Standing → Ace
ace_of p = p.in-Some.e

abbrev who_of : Standing → List ℕ
who_of p = part (list_of p) (ace_of p).from (ace_of p).to

abbrev entry_of_lem : Standing → Entry
entry_of_lem p = entry_of (list_of p) (ace_of p)

abbrev admitted_of : Standing → Bool
admitted_of p = admits (member (crowd_of_lem p) (hits_of_lem p)) (condition_of (list_of p) (ace_of p))

-- the invariant of the entries, one turn on
abbrev Next : Standing → Tally → Bool → Type 0
Next p t named =
    (turn_of p + 1 ≤ count_of p)
    × (walked_of (kind_of p) (crowd_of_lem p) (hits_of_lem p) (entries_by_length (list_of p))
    ≡ walked_from (kind_of p) (crowd_of_lem p) (hits_of_lem p) t named
    (entries_by_length_at (list_of p) (count_of p - (turn_of p + 1)) (ace_of p).next))

on : (p : Standing) (t : Tally) (named : Bool) →
    named ≡ (named_of p || (counts (entry_of_lem p) && same (who_of p) owner_rights)) →
    t ≡ taken (kind_of p) (crowd_of_lem p) (hits_of_lem p) (tally_of p) (entry_of_lem p) → Next p t named
on p t named e f =
    let more = p.entries-test.true in (
      omega (arith, more),
      p.entries.invariant.1
          ∙ walk_on (list_of p) (count_of p - turn_of p) (count_of p - (turn_of p + 1)) p.entries.place (ace_of p)
          (stands_is _ _ p.in-Some.ensures.value).0 (omega (arith, more)) (kind_of p) (crowd_of_lem p) (hits_of_lem p) (tally_of p) t (named_of p)
          named
          (entry_stands _ _ p.in-Some.ensures.value) e f,
    )

-- ---- the needs, in the order of the code
-- the next seat of the chain is below
below : (c : Else-is_near) → c.next-after.result < c.search.n
below c =
    far_below c.search.n c.next-after.result c.if-n-eq0.false
    (sym c.is_near.ensures ∙ c.if-is_near.false)

-- what the search gave: whether one of those shown matches
found : (c : Joined-n-eq0) →
    let a = c.args in
    let e = c.in-Some.e in
    c.if-n-eq0.hit ≡ among (eqb e.kind 0 || eqb e.kind 9) (shown_in a.self) (part a.list.now e.from e.to)
found c =
    let a = c.args in
    let e = c.in-Some.e in
    let allow = eqb e.kind 0 || eqb e.kind 9 in
    let who = part a.list.now e.from e.to in
    elim c.if-n-eq0.branch [
      | then-n-eq0 w ↦
          w.hit-is ∙ sym (c.search.invariant.1 ∙ chain_none allow a.self.seats.now a.self.listing.now who c.search.n w.if-n-eq0.true)
      | else-n-eq0+then-sits w ↦
          w.hit-is
          ∙ sym (c.search.invariant.1
          ∙ chain_hit allow a.self.seats.now a.self.listing.now who c.search.n (c.search.n - 1) _ (omega (arith, w.if-n-eq0.false)) refl
          (sym w.sits.ensures ∙ w.if-sits.true))
      | else-n-eq0+else-sits+then-is_near w ↦
          w.hit-is ∙ w.search_row-hit.ensures
          ∙ sym (c.search.invariant.1
          ∙ chain_near allow a.self.seats.now a.self.listing.now who c.search.n (c.search.n - 1) _ (omega (arith, w.if-n-eq0.false)) refl
          (sym w.sits.ensures ∙ w.if-sits.false)
          (ap (near c.search.n) (sym w.next-after.ensures.0) ∙ sym w.is_near.ensures ∙ w.if-is_near.true))
    ]

pub entries-init : goal.entries-init
entries-init c =
    let a = c.args in (
      omega arith,
      walk_start a.kind (shown_in a.self) a.self.hits a.list.now
          c.u16_at-entries.result
          c.empty-t.result c.u16_at-entries.ensures.value c.empty-t.ensures,
    )

pub entries-preserved-then-not-counts : goal.entries-preserved-then-not-counts
entries-preserved-then-not-counts c =
    let skip = not-false (has (ace_of (goal.at.entries-preserved-then-not-counts c).In-Some).flags 0x08) (sym c.counts.ensures ∙ c.if-not-counts.true) in
    on (goal.at.entries-preserved-then-not-counts c).In-Some (tally_of (goal.at.entries-preserved-then-not-counts c).In-Some) (named_of (goal.at.entries-preserved-then-not-counts c).In-Some) (names_skipped (named_of (goal.at.entries-preserved-then-not-counts c).In-Some) (entry_of_lem (goal.at.entries-preserved-then-not-counts c).In-Some) skip)
    (sym (taken_skipped (kind_of (goal.at.entries-preserved-then-not-counts c).In-Some) (crowd_of_lem (goal.at.entries-preserved-then-not-counts c).In-Some) (hits_of_lem (goal.at.entries-preserved-then-not-counts c).In-Some) (tally_of (goal.at.entries-preserved-then-not-counts c).In-Some) (entry_of_lem (goal.at.entries-preserved-then-not-counts c).In-Some) skip))

pub entries-preserved-then-is_virtual : goal.entries-preserved-then-is_virtual
entries-preserved-then-is_virtual c =
    let counted = not-true (has (ace_of (goal.at.entries-preserved-then-is_virtual c).In-Some).flags 0x08) (sym c.counts.ensures ∙ c.if-not-counts.false) in
    let mine = matches_virtual (allows (entry_of_lem (goal.at.entries-preserved-then-is_virtual c).In-Some)) (crowd_of_lem (goal.at.entries-preserved-then-is_virtual c).In-Some) (who_of (goal.at.entries-preserved-then-is_virtual c).In-Some) (hits_of_lem (goal.at.entries-preserved-then-is_virtual c).In-Some)
    (sym c.is_virtual.ensures ∙ c.if-is_virtual.true) in
    on (goal.at.entries-preserved-then-is_virtual c).In-Some c.step-t.result c.names-named.result (c.names-named.ensures ∙ names_counted
    (named_of (goal.at.entries-preserved-then-is_virtual c).In-Some) (entry_of_lem (goal.at.entries-preserved-then-is_virtual c).In-Some) counted)
    (c.step-t.ensures
    ∙ taken_by (kind_of (goal.at.entries-preserved-then-is_virtual c).In-Some) (crowd_of_lem (goal.at.entries-preserved-then-is_virtual c).In-Some) (hits_of_lem (goal.at.entries-preserved-then-is_virtual c).In-Some) (tally_of (goal.at.entries-preserved-then-is_virtual c).In-Some) (entry_of_lem (goal.at.entries-preserved-then-is_virtual c).In-Some) c.speaks-spoken.result c.entry_mask-mask.result.0 c.entry_mask-mask.ensures counted
    (c.speaks-spoken.ensures ∙ ap (λ (t : Bool). t && admitted_of (goal.at.entries-preserved-then-is_virtual c).In-Some) (c.matches-hit.ensures ∙ sym mine)))

pub entries-preserved-then-t-all : goal.entries-preserved-then-t-all
entries-preserved-then-t-all c =
    on (goal.at.entries-preserved-then-t-all c).In-Some (tally_of (goal.at.entries-preserved-then-t-all c).In-Some) (named_of (goal.at.entries-preserved-then-t-all c).In-Some) (names_other (named_of (goal.at.entries-preserved-then-t-all c).In-Some) (entry_of_lem (goal.at.entries-preserved-then-t-all c).In-Some) (sym c.is_virtual.ensures ∙ c.if-is_virtual.false))
    (sym (taken_full (kind_of (goal.at.entries-preserved-then-t-all c).In-Some) (crowd_of_lem (goal.at.entries-preserved-then-t-all c).In-Some) (hits_of_lem (goal.at.entries-preserved-then-t-all c).In-Some) (tally_of (goal.at.entries-preserved-then-t-all c).In-Some) (entry_of_lem (goal.at.entries-preserved-then-t-all c).In-Some)
    (c.if-t-all.true ∙ c.all_bits-all.ensures)))

pub entries-preserved-then-first-eq0 : goal.entries-preserved-then-first-eq0
entries-preserved-then-first-eq0 c =
    let a = c.args in
    let allow = allows (entry_of_lem (goal.at.entries-preserved-then-first-eq0 c).In-Some) in
    let other = sym c.is_virtual.ensures ∙ c.if-is_virtual.false in
    let none = among_start allow a.self.heads.now a.self.seats.now a.self.listing.now (who_of (goal.at.entries-preserved-then-first-eq0 c).In-Some) c.head-first.result c.head-first.ensures.value
    ∙ chain_none allow a.self.seats.now a.self.listing.now (who_of (goal.at.entries-preserved-then-first-eq0 c).In-Some) c.head-first.result c.if-first-eq0.true in
    on (goal.at.entries-preserved-then-first-eq0 c).In-Some (tally_of (goal.at.entries-preserved-then-first-eq0 c).In-Some) (named_of (goal.at.entries-preserved-then-first-eq0 c).In-Some) (names_other (named_of (goal.at.entries-preserved-then-first-eq0 c).In-Some) (entry_of_lem (goal.at.entries-preserved-then-first-eq0 c).In-Some) other)
    (sym (taken_missed (kind_of (goal.at.entries-preserved-then-first-eq0 c).In-Some) (crowd_of_lem (goal.at.entries-preserved-then-first-eq0 c).In-Some) (hits_of_lem (goal.at.entries-preserved-then-first-eq0 c).In-Some) (tally_of (goal.at.entries-preserved-then-first-eq0 c).In-Some) (entry_of_lem (goal.at.entries-preserved-then-first-eq0 c).In-Some)
    (matches_among allow (crowd_of_lem (goal.at.entries-preserved-then-first-eq0 c).In-Some) (who_of (goal.at.entries-preserved-then-first-eq0 c).In-Some) (hits_of_lem (goal.at.entries-preserved-then-first-eq0 c).In-Some) other ∙ none)))

pub entries-preserved-then-idle : goal.entries-preserved-then-idle
entries-preserved-then-idle c =
    on (goal.at.entries-preserved-then-idle c).In-Some (tally_of (goal.at.entries-preserved-then-idle c).In-Some) (named_of (goal.at.entries-preserved-then-idle c).In-Some) (names_other (named_of (goal.at.entries-preserved-then-idle c).In-Some) (entry_of_lem (goal.at.entries-preserved-then-idle c).In-Some) (sym c.is_virtual.ensures ∙ c.if-is_virtual.false))
    (sym (taken_idle (kind_of (goal.at.entries-preserved-then-idle c).In-Some) (crowd_of_lem (goal.at.entries-preserved-then-idle c).In-Some) (hits_of_lem (goal.at.entries-preserved-then-idle c).In-Some) (tally_of (goal.at.entries-preserved-then-idle c).In-Some) (entry_of_lem (goal.at.entries-preserved-then-idle c).In-Some)
    (ap (λ (n : ℕ). idle (tally_of (goal.at.entries-preserved-then-idle c).In-Some) (ace_of (goal.at.entries-preserved-then-idle c).In-Some).flags n) (sym c.entry_mask-mask-in-entries.ensures) ∙ (sym c.idle.ensures ∙ c.if-idle.true))))

pub search-init : goal.search-init
search-init c =
    let a = c.args in (
      c.head-first.ensures.upper_bound,
      among_start (allows (entry_of_lem (goal.at.search-init c).In-Some)) a.self.heads.now a.self.seats.now a.self.listing.now (who_of (goal.at.search-init c).In-Some) c.head-first.result c.head-first.ensures.value,
    )

pub offset_bounds-seats-n : goal.offset_bounds-seats-n
offset_bounds-seats-n c =
    let within : c.search.n < length c.args.self.seats.now = omega (arith, c.search.invariant.0, c.if-n-eq0.false) in
    search rules

pub sits-requires : goal.sits-requires
sits-requires c = c.last-word.ensures

pub search_row-hit-requires : goal.search_row-hit-requires
search_row-hit-requires c = omega (arith, c.search.invariant.0)

pub search-smaller : goal.search-smaller
search-smaller c = below (goal.at.search-smaller c).Else-is_near

pub search-preserved : goal.search-preserved
search-preserved c =
    let a = c.args in
    let less = below (goal.at.search-preserved c).Else-is_near in (
      omega (arith, less, c.search.invariant.0),
      c.search.invariant.1
          ∙ chain_more (allows (entry_of_lem (goal.at.search-preserved c).In-Some)) a.self.seats.now a.self.listing.now (who_of (goal.at.search-preserved c).In-Some) c.search.n (c.search.n - 1) _ (omega (arith, less))
          refl c.next-after.result (sym c.sits.ensures ∙ c.if-sits.false) c.next-after.ensures.0
          (sym c.is_near.ensures ∙ c.if-is_near.false),
    )

pub entries-smaller : goal.entries-smaller
entries-smaller c = omega (arith, c.entries-test.true)

pub entries-preserved : goal.entries-preserved
entries-preserved c =
    let other = sym c.is_virtual.ensures ∙ c.if-is_virtual.false in
    let counted = not-true (has (ace_of (goal.at.entries-preserved c).In-Some).flags 0x08) (sym c.counts.ensures ∙ c.if-not-counts.false) in
    let mine = matches_among (allows (entry_of_lem (goal.at.entries-preserved c).In-Some)) (crowd_of_lem (goal.at.entries-preserved c).In-Some) (who_of (goal.at.entries-preserved c).In-Some) (hits_of_lem (goal.at.entries-preserved c).In-Some) other in
    on (goal.at.entries-preserved c).In-Some c.step-t-in-entries.result (named_of (goal.at.entries-preserved c).In-Some) (names_other (named_of (goal.at.entries-preserved c).In-Some) (entry_of_lem (goal.at.entries-preserved c).In-Some) other)
    (c.step-t-in-entries.ensures
    ∙ taken_by (kind_of (goal.at.entries-preserved c).In-Some) (crowd_of_lem (goal.at.entries-preserved c).In-Some) (hits_of_lem (goal.at.entries-preserved c).In-Some) (tally_of (goal.at.entries-preserved c).In-Some) (entry_of_lem (goal.at.entries-preserved c).In-Some) c.speaks-spoken-in-entries.result c.entry_mask-mask-in-entries.result.0 c.entry_mask-mask-in-entries.ensures counted
    (c.speaks-spoken-in-entries.ensures ∙ ap (λ (t : Bool). t && admitted_of (goal.at.entries-preserved c).In-Some) (found (goal.at.entries-preserved c).Joined-n-eq0 ∙ sym mine)))

pub returns : goal.returns
returns c =
    let a = c.args in
    let n = c.u16_at-entries.result in
    let over : entries_by_length_at a.list.now (n - c.entries.counter) c.entries.place ≡ [] =
    elim c.entries-test.branch [
      | else-entries-test w ↦ entries_end a.list.now (n - c.entries.counter) c.entries.place (omega (arith, w.entries-test.false))
      | then-entries-test+in_default w ↦
          entries_bad a.list.now (n - c.entries.counter) (n - (c.entries.counter + 1)) c.entries.place _ refl
          (omega (arith, w.entries-test.true)) (stands_not _ (sym w.in_default.is ∙ w.ace_by_length.ensures.value))
    ] in
    sym (c.entries.invariant.1
    ∙ walk_end a.kind (shown_in a.self) a.self.hits c.entries.t c.entries.named _ over)
