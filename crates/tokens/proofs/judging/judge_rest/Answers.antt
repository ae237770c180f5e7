-- `judge_rest` goes by the flags: no confinement, and then no exemption; or the confinement.
-- Assumes nothing.
use mathlib.Core.Path.{sym, ◌∙◌}
use Rattle.tokens.proofs.JudgePeople.{rest_free, rest_confined}
use Rattle.tokens.proofs.judging.judge_rest.Goals as goal

pub returns-then-flags-eq0 : goal.returns-then-flags-eq0
returns-then-flags-eq0 c =
    let a = c.args in
    record { result_value = sym (rest_free a.flags a.s.now a.at c.if-flags-eq0.true); next_in_bounds = c.requires }

pub returns : goal.returns
returns c =
    let a = c.args in
    record { result_value = c.judge_confinement.ensures.result_value ∙ sym (rest_confined a.flags a.s.now a.at c.if-flags-eq0.false); next_in_bounds = c.judge_confinement.ensures.next_in_bounds }
