-- `confinement` meets its contract: it takes no bit from a token that is not confined or is exempt, and else leaves what the list gives.
-- Assumes nothing.
use mathlib.Core.Path.{refl, sym, ap, ◌∙◌}
use mathlib.Core.Bool.{false}
use Rattle.passes.specs.Confinement.{confines}
use Rattle.access.proofs.EvaluatingSteps.{not_confined, is_confined, crowd_shown, crowd_alike, crowd_hits, listed_walked}
use Rattle.access.proofs.evaluate.Case.confinement.Goals as goal

pub returns-then-not-confines : goal.returns-then-not-confines
returns-then-not-confines c =
    let s = c.args.self in
    let off = ap confines (sym c.u32_at.ensures) ∙ sym c.confines.ensures ∙ c.if-not-confines.true in
    sym (not_confined s.kind s.listing.now s.place s.owner.now s.me.now s.present s.list.now off)

pub returns : goal.returns
returns c =
    let s = c.args.self in
    let on = ap confines (sym c.u32_at.ensures) ∙ sym c.confines.ensures ∙ c.if-not-confines.false in
    let o = c.of-crowd.ensures in
    let shown = crowd_shown false s.listing.now s.place _ _ _ _ c.requires.0 c.requires.1.0 c.requires.1.1.1 refl c.chain_crowd.ensures.heads_after
    c.chain_crowd.ensures.seats_after in
    let alike = crowd_alike _ _ shown s.owner.now s.me.now c.of-crowd.result o.shows o.hits in
    let hits = crowd_hits _ _ shown s.owner.now s.me.now c.of-crowd.result o.shows o.hits in
    c.listed.ensures
    ∙ listed_walked s.kind _ _ alike s.owner.now s.me.now s.present s.list.now c.of-crowd.result.hits c.pass-walked.result hits c.pass-walked.ensures
    ∙ sym (is_confined s.kind s.listing.now s.place s.owner.now s.me.now s.present s.list.now on)
