-- What the requests of document 02 promise beside the three demands, a heading for each that is built, and where it is proved: each proof
-- here is one line that cites the work. The words mean: `entry_end true`, the place after a well shaped entry of a DACL, or 0; `scan_of true`,
-- what the entries of a DACL come to, `Plain` if they are accepted; `entries_of`, what they are (lists/specs/Acl.antt); `LongEnough`,
-- `said_at`, `SameButSpare` (lists/specs/Spare.antt); `read_all (held l)`, what a reader opened on a list gives, by the contracts of `opened`,
-- `current` and `stepped` (reader/specs/Reading.antt); `ReadTheSame` (demands/specs/LongEntries.antt); `names_owner`, whether a list takes
-- the owner's two rights away, `list_gives`, what it allows by itself, `normal_of`, what normal evaluation gives with it
-- (passes/specs/NormalEvaluation.antt); `OwnerEntry`, `GoesBy`, `OwnerAsks`, `owners_rights`, `its_list`, `by_object`
-- (demands/specs/OwnerEntries.antt); `number`, a number of at most so many bits at a place with the place after it, or none
-- (base/specs/Sevens.antt); `crowd_at`, whom a listing shows at a place (records/specs/Crowd.antt); `among`, whether one of them has a SID and
-- matches (passes/specs/Matching.antt); `chains_of`, `shown` (passes/specs/Chains.antt); `outcome`, what an expression comes to for a
-- membership test, `admits`, whether a condition is none or true (conditions/specs/Membership.antt), `shape`, `shape_of`, its faults
-- (conditions/specs/Condition.antt); `taken`, the tally after an entry (passes/specs/OnePass.antt); `Conditioned`, `conditioned_by`,
-- `applies` (demands/specs/SomeCallers.antt); `known`, `struck`, `SameButOneRule` (demands/specs/Strangers.antt); `asked`, the bits that a mask
-- asks for (masks/specs/KindsAndMasks.antt); `bit`, the bit of a mask at a place (base/specs/Bits.antt); `Narrowing`, `FirstTwoStill`,
-- `TakenOnce` (demands/specs/FourMasks.antt); `confines`, whether confinement applies to a token of these flags
-- (passes/specs/Confinement.antt); `token_in`, the token of a question, `events_given`, its events (demands/specs/Accepted.antt);
-- `rules_of`, the rules of a policy (policy/specs/Rules.antt); `by_lists`, the answer by the access lists alone, `raised_for`, whether a
-- staged SACL raises the flag (access/specs/Status.antt); `report_of`, an answer and the bytes of its trail, `in_buffer n`, that in a lent
-- buffer of n bytes, `Lent`, what a call hands out (access/specs/Reported.antt); `trail_bytes`, events as bytes (audit/specs/Trail.antt);
-- `Written`, a buffer with bytes at its front (demands/specs/Conversions.antt). Assumes nothing.
use Prim.Native.Nat.{ℕ, ◌+◌, ◌*◌, ◌<◌, ◌≤◌}
use mathlib.Core.Path.{◌≡◌}
use mathlib.Core.List.{List, [], ◌∷◌, ◌++◌}
use mathlib.Core.Bool.{Bool, true, false, ◌||◌}
use mathlib.Core.Logic.{◌↔◌}
use lib.ListN.{length, get_or, take}
use lib.Dec.{T}
use lib.Pow.{are_bytes}
use Rattle.base.specs.Bits.{and, bit, Within}
use Rattle.base.specs.Bytes.{byte_at, u16_at}
use Rattle.base.specs.Bytes.Read.{some}
use Rattle.base.specs.Sevens.{number}
use Rattle.base.proofs.number32 as number32
use Rattle.base.proofs.number48 as number48
use Rattle.base.proofs.number64 as number64
use Rattle.base.proofs.SevensSteps as steps
use Rattle.base.proofs.LongerLaws as longer
use Rattle.conditions.specs.Condition.{shape_of, shape}
use Rattle.conditions.specs.Membership.{reply, told_of, outcome, admits}
use Rattle.conditions.proofs.ShapeLaws as shapes
use Rattle.conditions.proofs.MembershipLaws as membership
use Rattle.conditions.proofs.judge as judge
use Rattle.lists.specs.Acl.{named, audits, Entry, entry_end, scan_of, entries_of}
use Rattle.lists.specs.Spare.{LongEnough, said_at, SameButSpare}
use Rattle.conditions.specs.Scanning.Scan.{Plain}
use Rattle.lists.specs.ByLength.{entries_by_length}
use Rattle.lists.proofs.ByLengthLaws as lengths
use Rattle.lists.proofs.SpareLaws as spare
use Rattle.lists.proofs.AlikeLaws as alike
use Rattle.reader.specs.Reading.{held, read_all}
use Rattle.reader.proofs.ReadingLaws as reading
use Rattle.records.specs.Token.{Token}
use Rattle.records.specs.Shaped.{Shaped}
use Rattle.records.specs.TokenRecord.{record_of}
use Rattle.records.specs.FlatListing.{listing_of}
use Rattle.records.specs.Crowd.{Member, crowd_at}
use Rattle.records.proofs.TwiceLaws as twice
use Rattle.masks.specs.KindsAndMasks.{asked}
use Rattle.passes.specs.Chains.{shown, Tables, tables, chains_of}
use Rattle.passes.specs.Matching.{among, matches}
use Rattle.passes.specs.OnePass.{taken}
use Rattle.passes.specs.NormalEvaluation.{Dacl, names_owner, list_gives, normal_of}
use Rattle.passes.specs.Confinement.{confines}
use Rattle.passes.specs.declared.matching.Hits.{Hits}
use Rattle.masks.specs.declared.tally.Tally.{Tally}
use Rattle.passes.proofs.ChainedLaws as links
use Rattle.passes.proofs.Crowd.admits as admitting
use Rattle.policy.specs.Rules.{rules_of}
use Rattle.audit.specs.Trail.{trail_bytes}
use Rattle.access.specs.Status.{Question, by_lists, raised_for, checked}
use Rattle.access.specs.Reported.{report_of, in_buffer, Lent}
use Rattle.access.specs.declared.answer.Traced.{Traced}
use Rattle.questions.specs.QuestionFile.{file_report}
use Rattle.demands.specs.Accepted.{Accepted, token_in, events_given}
use Rattle.demands.specs.Conversions.{Written}
use Rattle.demands.specs.Strangers.{known, struck, SameButOneRule}
use Rattle.demands.specs.LongEntries.{ReadTheSame}
use Rattle.demands.specs.SomeCallers.{applies, Conditioned, conditioned_by}
use Rattle.demands.specs.FourMasks.{Narrowing, FirstTwoStill, TakenOnce}
use Rattle.demands.specs.OwnerEntries.{OwnerEntry, GoesBy, OwnerAsks, owners_rights, its_list, by_object}
use Rattle.demands.proofs.LongEntriesLaws as long-entries
use Rattle.demands.proofs.OwnerEntriesLaws as owner-entries
use Rattle.demands.proofs.OwnersRightsLaws as owners-rights
use Rattle.demands.proofs.ObjectListsLaws as object-lists
use Rattle.demands.proofs.SomeCallersLaws as some-callers
use Rattle.demands.proofs.TrailLaws as trail
use Rattle.demands.proofs.TrailBoundLaws as bound
use Rattle.demands.proofs.FileBoundLaws as file-bound
use Rattle.demands.proofs.FourMasksLaws as four-masks

-- ---- #101 Older lists with long entries. "Accept a size of 8 plus the SID's length or more, still a multiple of 4."
-- Of an entry in a DACL that holds a SID, of type 0, 1, 9 or 10: well shaped exactly then (its condition apart)
pub long_entry : (l : List ℕ) (at : ℕ) → named (byte_at l at) ≡ true → (entry_end true l at ≡ 0 → ⊥) ↔ LongEnough l at
long_entry = spare.long_enough

-- What the entries of an accepted list say: type, flags, mask and SID, spare bytes or not, and the next one begins where the size says; of
-- a callback entry all bytes behind the SID too
pub entries_said : (l : List ℕ) → scan_of true l ≡ Plain → entries_of l ≡ said_at l (u16_at l 4) 8
entries_said = spare.entries_said

-- "What the entry reader promises changes": m steps give the first m entries of the list that it was opened on, for every m; of a list that
-- is not accepted, of those before the first that is not well shaped or of another type than 0, 1, 9 and 10
pub entries_read : (l : List ℕ) (m : ℕ) → read_all (held l) m 8 ≡ take m (entries_of l)
entries_read = reading.read_any

-- "spare bytes never alter an answer". What they hold is not read: with others in their place accepted entries are accepted, and say the
-- same (a callback entry has none: all behind its SID is its condition); and two accepted checks whose lists read the same, and that are
-- otherwise alike, have equal answers
pub spare_bytes : (l m : List ℕ) → scan_of true l ≡ Plain → SameButSpare l m →
    (scan_of true m ≡ Plain) × (entries_of m ≡ entries_of l)
spare_bytes = alike.spare_unread

pub same_reading : (p q : Question) → Accepted p → Accepted q → ReadTheSame p q → checked p ≡ checked q
same_reading = long-entries.answer_read

-- and equal trails, since "Audit entries get 101's shape rule" (request 105)
pub same_report : (p q : Question) → Accepted p → Accepted q → ReadTheSame p q → report_of p ≡ report_of q
same_report = trail.report_read

-- ---- #102 Owner entries meant for children. "Only entries without flag 0x08 count from now on, in the descriptor and in rule lists."
-- Of those that name S-1-3-4: a list takes the owner's two rights away exactly if it has one without the flag, allow or deny, any mask
pub owner_entry : (es : List Entry) → names_owner es ≡ true ↔ OwnerEntry es
owner_entry = owner-entries.named_when

-- With none in the descriptor's list and in the effective lists of rules that apply, or inherit-only ones alone, an owner who asks keeps
-- both rights: they are granted as far as they are asked and confinement leaves them
pub owner_keeps : (q : Question) → Accepted q → OwnerAsks q → ((d : Dacl) → GoesBy q d → OwnerEntry d.entries → ⊥) →
    Within (and (asked q.kind q.mask) (owners_rights q)) (checked q).granted.0
owner_keeps = owners-rights.owner_keeps

-- One in any of these lists takes them: of the two rights none is granted that this list does not by itself allow
pub owner_loses : (q : Question) (d : Dacl) → Accepted q → GoesBy q d → OwnerEntry d.entries →
    Within (and (checked q).granted.0 0x60000) (its_list q d)
owner_loses = owners-rights.owner_loses

-- The same of any one list, a staged one too: a rule's effective and staged result is what normal evaluation gives with that list
pub list_keeps : (kind : ℕ) (ms : List Member) (h : Hits) (p : ℕ) (d : Dacl) → h.owner.allow ≡ true → (OwnerEntry d.entries → ⊥) →
    Within 0x60000 (normal_of kind ms h p d)
list_keeps = owners-rights.list_keeps

pub list_loses : (kind : ℕ) (ms : List Member) (h : Hits) (p : ℕ) (d : Dacl) → OwnerEntry d.entries →
    Within (and (normal_of kind ms h p d) 0x60000) (list_gives kind ms h d)
list_loses = owners-rights.list_loses

-- "An inherit-only entry says nothing about the object itself": the answer is that of the lists without such entries
pub children_apart : (q : Question) → Accepted q → checked q ≡ by_object q
children_apart = object-lists.answer_object

-- ---- #103 Rules that apply to some callers. "Broken expressions give 6 or 9, other tokens 8 or 10; within an expression the first met
-- from the left decides." Which of the three an expression is, broken, with an other token, or neither, does not depend on who is a member:
-- so it is judged without a token. That the numbers are given exactly then is `bad_input` of Promises.antt
pub shape_apart : (member : List ℕ → Bool) (s : List ℕ) → shape_of (outcome member s) ≡ shape s
shape_apart member s = shapes.shape_any (told_of member s) s

-- The functions that judge an expression, and that weigh it in a pass: each ends, is safe, and answers by these definitions for all lent
-- bytes
pub judging_met : {M : Type 1} → judge.Statement.statement M × admitting.Statement.statement M
judging_met = (judge.Met.met, admitting.Met.met)

-- Every entry of an accepted list: a callback entry has an expression with a truth, and no other entry has a condition
pub conditioned : (l : List ℕ) → scan_of true l ≡ Plain → (before : List Entry) (e : Entry) (after : List Entry) →
    entries_of l ≡ before ++ e ∷ after → Conditioned e
conditioned = some-callers.conditioned

-- "Membership means matching for allow in the pass being made": an entry whose condition is false for those who match for allow in that
-- pass says nothing in it, allow or deny
pub silent : (kind : ℕ) (ms : List Member) (h : Hits) (t : Tally) (e : Entry) → admits (λ w. matches true ms h w) e.condition ≡ false →
    taken kind ms h t e ≡ t
silent = some-callers.silent

-- One whose condition is true does what the same entry would do without a condition
pub spoken : (kind : ℕ) (ms : List Member) (h : Hits) (t : Tally) (e : Entry) → admits (λ w. matches true ms h w) e.condition ≡ true →
    taken kind ms h t e ≡ taken kind ms h t (conditioned_by [] e)
spoken = some-callers.spoken

-- "Member_of asks for all SIDs of its list (none: true), Member_of_Any for one (none: false)": of no SID, and the two negations
pub of_none : (member : List ℕ → Bool) → (reply member 0x89 [] ≡ true) × (reply member 0x8b [] ≡ false) × (reply member 0x90 [] ≡ false)
    × (reply member 0x92 [] ≡ true)
of_none = membership.none_told

-- "For 102 a callback entry naming S-1-3-4 counts whatever its condition."
pub owner_still : (c : List ℕ) (e : Entry) (es : List Entry) → names_owner (conditioned_by c e ∷ es) ≡ names_owner (e ∷ es)
owner_still = some-callers.owner_named

-- "an entry naming a stranger remains a stranger's with any condition": demand 3 strikes it out
pub stranger_still : (t : Token) (e : Entry) (c : List ℕ) (es : List Entry) → known t e.sid ≡ false →
    struck t (conditioned_by c e ∷ es) ≡ struck t es
stranger_still = some-callers.stranger_struck

-- "A rule that does not apply neither narrows nor flags": with it or without it the answers are equal
pub rule_apart : (p q : Question) → Accepted p → Accepted q → (s : SameButOneRule p q) → applies p s.policy.gained ≡ false →
    checked q ≡ checked p
rule_apart = some-callers.rule_apart

-- ---- #104 Faster one_byte numbers. "What it answers, refusals included, does not change."
-- Of its three doors, for 32, 48 and 64 bits: for all lent bytes each ends, is safe, and answers `number` of its width (base/src/sevens.rt)
pub doors_met : {M : Type 1} → number32.Statement.statement M × number48.Statement.statement M × number64.Statement.statement M
doors_met = (number32.Met.met, number48.Met.met, number64.Met.met)

-- A byte below 128 is a number by itself, in every width of seven bits or more, and the next number begins behind it
pub one_byte : (bits : ℕ) (s : List ℕ) (at : ℕ) → at < length s → byte_at s at < 128 → 7 ≤ bits →
    number bits s at ≡ some (byte_at s at) (at + 1)
one_byte = steps.number_alone

-- Any other byte is no number by itself: a number that begins with one takes more bytes, and is 128 or more, so that no longer form of a
-- one_byte number is read
pub more_bytes : (bits : ℕ) (s : List ℕ) (at v n : ℕ) → 128 ≤ byte_at s at → number bits s at ≡ some v n → (128 ≤ v) × (at + 1 < n)
more_bytes = longer.longer_found

-- ---- #105 Audit trail and staged audit. "Audit entries get 101's shape rule": in a SACL, of type 2
pub audit_entry : (l : List ℕ) (at : ℕ) → audits (byte_at l at) ≡ true → (entry_end false l at ≡ 0 → ⊥) ↔ LongEnough l at
audit_entry = spare.audit_enough

-- "Write one event per entry .., all in sevens, in stored order, into a lent buffer." The trail of
-- an accepted question is the bytes of its events; where it fits they stand at the buffer's front, with the rest unchanged
pub trail_is : (q : Question) → Accepted q → (report_of q).trail ≡ trail_bytes (events_given q)
trail_is = trail.trail_is

pub trail_written : (q : Question) (before after : List ℕ) (t : Traced) → Lent (in_buffer (length before) (report_of q)) before after t →
    t.answer.status ≡ 0 → Written (trail_bytes (events_given q)) before after t.length
trail_written = trail.trail_written

-- "If the events do not fit: 11, last of all, nothing granted, nothing written": 11 exactly then, and with room enough, an exactly full
-- buffer included, the whole report. The rest is `bad_report`, `refused_report` and `refused_trail` of Promises.antt
pub eleven_only : (n : ℕ) (q : Question) → (in_buffer n (report_of q)).answer.status ≡ 11 ↔ (Accepted q × (n < length (report_of q).trail))
eleven_only = trail.eleven_only

pub room_enough : (n : ℕ) (q : Question) → length (report_of q).trail ≤ n → in_buffer n (report_of q) ≡ report_of q
room_enough = trail.room_enough

-- how long a trail is at most: 9/16 of descriptor and policy, and so 184,319 bytes, and 36,864 of a question file's
pub trail_bound : (q : Question) → T (are_bytes q.descriptor) → T (are_bytes q.policy) →
    16 * length (report_of q).trail ≤ 9 * (length q.descriptor + length q.policy)
trail_bound = bound.trail_bound

pub trail_most : (q : Question) → T (are_bytes q.descriptor) → T (are_bytes q.policy) → length (report_of q).trail ≤ 184319
trail_most = bound.trail_most

pub file_trail_most : (s : List ℕ) → T (are_bytes s) → length (file_report s).trail ≤ 36864
file_trail_most = file-bound.file_trail_most

-- "A staged SACL now raises the staging flag when its events would differ from the effective SACL's, entry numbers aside", beside the
-- staged access lists
pub flag_is : (q : Question) → Accepted q → (checked q).staged ≡ ((by_lists q (token_in q)).staged || raised_for q (token_in q))
flag_is = trail.flag_is

-- ---- #106 Where did my rights go. "four masks: after normal evaluation, after confinement, after policy, and granted, each limited to asked
-- bits. Each lies within the one before; the last two are equal." Of every answer; what each mask is, `accepted_answer` of Promises.antt says
pub masks_narrow : (q : Question) → Narrowing (asked q.kind q.mask) (checked q)
masks_narrow = four-masks.masks_narrow

-- "A refusal zeroes all four": `refused_check` and `refused_file` there. "Demand 3's equality covers all of them": `strangers_change_nothing`
-- there is an equation of whole answers. "a gained rule leaves the first two as they were":
pub first_two_still : (p q : Question) → Accepted p → Accepted q → SameButOneRule p q → FirstTwoStill (checked p) (checked q)
first_two_still = four-masks.first_two_still

-- So it can be said of every bit that is asked and not granted where it was lost: of an accepted question one step takes it, and no other
pub taken_once : (q : Question) → Accepted q → (i : ℕ) → bit (asked q.kind q.mask) i ≡ true → bit (checked q).granted.0 i ≡ false →
    TakenOnce (asked q.kind q.mask) (checked q) i
taken_once = four-masks.taken_once

-- Confinement takes nothing from a token that is not confined, or exempt; a policy without rules takes nothing
pub unconfined_keeps : (q : Question) → Accepted q → confines (token_in q).flags ≡ false → (checked q).confined ≡ (checked q).normal
unconfined_keeps = four-masks.unconfined_keeps

pub no_rule_keeps : (q : Question) → Accepted q → rules_of q.policy ≡ [] → (checked q).ruled ≡ (checked q).confined
no_rule_keeps = four-masks.no_rule_keeps

-- ---- Speed. No answer changes; what the quicker ways lean on
-- The chains of a crowd, in tables whose heads were clear and whose seats are more than the crowd, show exactly that crowd: a SID matches one
-- of those whom they show where it matches one of the crowd, for allow and for deny. The crowd of an accepted token has at most 257, in at
-- most 22,940 bytes
pub chains_show : (heads seats : List ℕ) → ((k : ℕ) → get_or heads k 0 ≡ 0) → length heads ≡ 512 → length seats ≤ 512 →
    (attrs : Bool) (s : List ℕ) (at : ℕ) → length s ≤ 32768 → length (crowd_at attrs s at) < length seats →
    (t : Tables) → t ≡ chains_of attrs s at (tables heads seats) → (allow : Bool) (w : List ℕ) →
    among allow (shown t.heads t.seats s) w ≡ among allow (crowd_at attrs s at) w
chains_show = links.chains_say

-- The entries of a list that scans plain are found by their sizes and the counts of their SIDs alone
pub by_length : (l : List ℕ) → scan_of true l ≡ Plain → entries_by_length l ≡ entries_of l
by_length = lengths.entries_by_length_lem

-- A record is at most twice as long as its listing
pub record_twice : (t : Token) → Shaped t → length (record_of t) ≤ 2 * length (listing_of t)
record_twice = twice.record_twice
