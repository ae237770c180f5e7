-- `fires` meets its contract: each way out is a test of the definition.
-- Assumes nothing.
use mathlib.Core.Path.{refl, sym, ◌∙◌}
use Rattle.passes.specs.Crowds.{shown_in}
use Rattle.audit.specs.Walking.{said_in}
use Rattle.audit.proofs.EntrySteps.{fires_inherit, fires_unflagged, fires_unasked, fires_asked}
use Rattle.audit.proofs.firing.Asked.fires.Goals as goal
use Rattle.audit.proofs.firing.Asked.fires.Goals.{then-x-ne0-via-then-x-ne0, then-x-ne0-via-else-x-ne0+then-x-flag_for-eq0}

pub returns-then-x-ne0 : goal.returns-then-x-ne0
returns-then-x-ne0 c =
    let a = c.args.self in
    let x = said_in c.args.list.now c.args.x in
    elim c.then-x-ne0.branch [
      | then-x-ne0-via-then-x-ne0 w ↦ sym (fires_inherit a.sought (shown_in a.crowd) a.crowd.hits x refl w.if-x-ne0.true)
      | then-x-ne0-via-else-x-ne0+then-x-flag_for-eq0 w ↦
          sym
          (fires_unflagged a.sought (shown_in a.crowd) a.crowd.hits x refl w.if-x-ne0.false _ w.flag_for.ensures w.if-x-flag_for-eq0.true)
    ]

pub returns-then-mask-self-eq0 : goal.returns-then-mask-self-eq0
returns-then-mask-self-eq0 c =
    let a = c.args.self in
    sym
    (fires_unasked a.sought (shown_in a.crowd) a.crowd.hits (said_in c.args.list.now c.args.x) refl c.if-x-ne0.false _ c.flag_for.ensures
    c.if-x-flag_for-eq0.false _ c.entry_mask-mask.ensures c.if-mask-self-eq0.true)

pub returns : goal.returns
returns c =
    let a = c.args.self in
    c.matches.ensures
    ∙ sym
    (fires_asked a.sought (shown_in a.crowd) a.crowd.hits (said_in c.args.list.now c.args.x) refl c.if-x-ne0.false _ c.flag_for.ensures
    c.if-x-flag_for-eq0.false _ c.entry_mask-mask.ensures c.if-mask-self-eq0.false)
