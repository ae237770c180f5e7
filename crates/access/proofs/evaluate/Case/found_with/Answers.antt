-- `found_with` meets its contract: each of the three evaluations is its callee's; the normal identities, seated after the confinement
-- identities in the same room, serve the descriptor's list and every rule.
-- Assumes nothing.
use mathlib.Core.Path.{refl, ◌∙◌}
use native.Mathlib.Omega.{arith}
use mathlib.Core.Bool.{true}
use Rattle.records.specs.Crowd.{user_place}
use Rattle.policy.specs.ByLengths.{rules_by_lengths}
use Rattle.access.proofs.EvaluatingSteps.{crowd_shown, crowd_alike, crowd_hits, normal_walked, rules_shown, found_made}
use Rattle.access.proofs.evaluate.Case.found_with.Goals as goal

pub returns : goal.returns
returns c =
    let s = c.args.self in
    let l = s.listing.now in
    let long = c.confinement-left.auto.seats in
    let o = c.of-crowd.ensures in
    let shown = crowd_shown true l user_place _ _ _ _ c.requires.0 (omega (arith, long, c.requires.1.0))
    (omega (arith, long, c.requires.1.1.0)) refl c.chain_crowd.ensures.heads_after c.chain_crowd.ensures.seats_after in
    let alike = crowd_alike _ _ shown s.owner.now s.me.now c.of-crowd.result o.shows o.hits in
    let hits = crowd_hits _ _ shown s.owner.now s.me.now c.of-crowd.result o.shows o.hits in
    found_made s.kind l s.place s.owner.now s.me.now s.present s.list.now (rules_by_lengths s.policy.now) _ _ _
    (c.normal-normal.ensures
    ∙ normal_walked s.kind _ _ alike s.owner.now s.me.now s.present _ s.list.now c.of-crowd.result.hits c.pass-walked.result hits
    c.pass-walked.ensures
    ∙ rw (c.from-privileges.ensures, c.u32_at.ensures) refl)
    c.confinement-left.ensures
    (rules_shown s.kind _ _ alike s.owner.now s.me.now _ (rules_by_lengths s.policy.now) c.of-crowd.result.hits c.ruled_by-rules.result hits
    c.ruled_by-rules.ensures
    ∙ rw (c.from-privileges.ensures, c.u32_at.ensures) refl)
