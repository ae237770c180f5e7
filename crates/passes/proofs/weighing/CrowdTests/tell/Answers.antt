-- `tell` meets its contract: each way out is one of the four questions.
-- Assumes nothing.
use mathlib.Core.Path.{sym, ap, ◌∙◌}
use mathlib.Core.Bool.{true, not}
use native.Mathlib.Omega.{arith}
use Rattle.conditions.specs.Membership.{sids_of}
use Rattle.conditions.proofs.MembershipLaws.{reply_all, reply_any, reply_not_all, reply_not_any}
use Rattle.passes.specs.Crowds.{shown_in}
use Rattle.passes.specs.Matching.{matches}
use Rattle.passes.proofs.weighing.CrowdTests.tell.Goals as goal

pub returns-in-137 : goal.returns-in-137
returns-in-137 c =
    let a = c.args in
    let f = matches true (shown_in a.self.now) a.self.now.hits in
    c.meets.ensures ∙ sym (reply_all f a.b (sids_of a.list.now) c.in-137.is)

pub returns-in-139 : goal.returns-in-139
returns-in-139 c =
    let a = c.args in
    let f = matches true (shown_in a.self.now) a.self.now.hits in
    c.meets-in-139.ensures ∙ sym (reply_any f a.b (sids_of a.list.now) c.in-139.is)

pub returns-in-144 : goal.returns-in-144
returns-in-144 c =
    let a = c.args in
    let f = matches true (shown_in a.self.now) a.self.now.hits in
    ap not c.meets-in-144.ensures ∙ sym (reply_not_all f a.b (sids_of a.list.now) c.in-144.is)

pub returns-in_default : goal.returns-in_default
returns-in_default c =
    let a = c.args in
    let f = matches true (shown_in a.self.now) a.self.now.hits in
    ap not c.meets-in_default.ensures ∙ sym (reply_not_any f a.b (sids_of a.list.now)
    (λ e. omega arith) (λ e. omega arith) (λ e. omega arith))
