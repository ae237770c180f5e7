-- `Events::of` meets its contract: before the first event all are left. Assumes nothing.
use mathlib.Core.Path.{◌≡◌, sym, ap}
use native.Mathlib.Omega.{arith}
use lib.ListN.{length}
use Rattle.passes.specs.Crowds.{shown_in}
use Rattle.audit.specs.Events.{events_in}
use Rattle.audit.specs.Walking.{events_left}
use Rattle.audit.proofs.WalkingLaws.{From, start, events_short}
use Rattle.audit.proofs.walk.Events.of.Goals as goal

pub returns : goal.returns
unfolding events_left
returns c =
    let a = c.args.asked in
    let l = c.args.list.now in
    let e : From a.sought (shown_in a.crowd) a.crowd.hits c.args.source l c.u16_at.result 0 8
    ≡ events_in a.sought (shown_in a.crowd) a.crowd.hits c.args.source l
    = rw c.u16_at.ensures.value (sym (start a.sought (shown_in a.crowd) a.crowd.hits c.args.source l)) in
    let k = events_short a.sought (shown_in a.crowd) a.crowd.hits c.args.source l in
    record { left = e; few = omega (arith, ap length e, k, c.u16_at.ensures.value, c.u16_at.ensures.upper_bound) }
