-- Every definition that a worked question computes with, opened by one name: a proof by computation says `unfolding the_page`.
-- A definition that is new in the page's files and marked `unfoldable` is entered here. Assumes nothing.
use mathlib.Core.Bool.{Bool, true}
use Rattle.base.specs.Bytes.{u16_at, u32_at, same, little, big, u48_be_at}
use Rattle.base.specs.Sevens.{more, groups, within, placed, number, sevens}
use Rattle.sids.specs.Sid.{sid_end, is_sid}
use Rattle.conditions.specs.Condition.{zeros, enclosed_end, literal_end, literals_at, literals, push, literal, composite, answered, paired}
use Rattle.conditions.specs.Condition.{negated}
use Rattle.conditions.specs.Condition.{step_at, ended, run_from, outcome_by, shape}
use Rattle.conditions.specs.Membership.{sids_at, sids_of, all_of, any_of, reply, told_of, admits}
use Rattle.lists.specs.Acl.{acl_end, head_end, callback, named, audits, judges, holds, entry_end, content_of, shaped, foreign, scan_of, ace_at}
use Rattle.lists.specs.Acl.{entries_at, entries_of}
use Rattle.lists.specs.Descriptor as descriptor
use Rattle.lists.specs.Descriptor.{heading, sid_piece, acl_piece, judged, parts_of}
use Rattle.records.specs.Fields.{many, group_at, confinement_at, people_at, fields_at, each, people_bytes, confinement_bytes, fields_bytes}
use Rattle.records.specs.TokenRecord.{packed_identity, read_record}
use Rattle.records.specs.FlatListing.{listing_of}
use Rattle.records.specs.TokenRules.{virtual_group, virtual_in, lists, exempt_alone, virtual_stands, unrestricted, keeps}
use Rattle.records.specs.Converters.{as_listing, fitted}
use Rattle.masks.specs.KindsAndMasks.{right, mapped, entry_mask, legal, explicit, asked}
use Rattle.passes.specs.Matching.{among, stands, hits_of, matches}
use Rattle.passes.specs.OnePass.{taken, run}
use Rattle.passes.specs.NormalEvaluation.{names_owner, normal_of}
use Rattle.passes.specs.Confinement.{confinement_of}
use Rattle.policy.specs.Policy as policy
use Rattle.policy.specs.Policy.{section_at, acl_section, maybe_acl, applies_section, rule_of, rule_at, rules_shaped, rules_unread, standing_of}
use Rattle.policy.specs.Rules.{rules_at, rules_of, narrowed_by, judged_by, ruled_from}
use Rattle.audit.specs.Events.{spot_at, audits_at, audits_of, fires, events_from, rules_events, masks_in, stages_audit}
use Rattle.audit.specs.Trail.{trail_bytes}
use Rattle.answers.specs.Granted.{answer_of}
use Rattle.access.specs.Evaluated.{found_of}
use Rattle.access.specs.Status.{self_fits, answer_to, after_token, checked}
use Rattle.access.specs.Reported.{report_of, in_buffer}
use Rattle.questions.specs.QuestionFile.{blob_at, question_of, file_answer, file_report}
use Rattle.demands.specs.Strangers.{in_groups, known, struck, struck_audits, unnumbered}
use Rattle.demands.specs.OwnerEntries.{of_object}
use Rattle.cards.specs.Cards.{many_rules}

-- the value says nothing: what counts is the line below
unfoldable pub the_page : Bool
unfolding
    u16_at u32_at same little big u48_be_at more groups within placed number sevens
    sid_end is_sid zeros enclosed_end literal_end literals_at literals push literal composite answered paired negated step_at ended run_from
    outcome_by shape sids_at sids_of all_of any_of reply told_of admits
    acl_end head_end callback named audits judges holds entry_end content_of shaped foreign scan_of ace_at entries_at entries_of
    descriptor.number_of heading sid_piece acl_piece judged parts_of
    many group_at confinement_at people_at fields_at each people_bytes confinement_bytes fields_bytes packed_identity read_record listing_of
    virtual_group virtual_in lists exempt_alone virtual_stands unrestricted keeps as_listing fitted
    right mapped entry_mask legal explicit asked among stands hits_of matches taken run names_owner normal_of confinement_of
    policy.number_of section_at acl_section maybe_acl applies_section rule_of rule_at rules_shaped rules_unread standing_of rules_at rules_of
    narrowed_by judged_by ruled_from
    spot_at audits_at audits_of fires events_from rules_events masks_in stages_audit trail_bytes
    found_of answer_of self_fits answer_to after_token checked report_of in_buffer blob_at question_of file_answer file_report
    in_groups known struck struck_audits unnumbered of_object many_rules
the_page = true
