-- `ended` meets its contract: only one truth alone has the word 1 or 2. Assumes nothing.
use mathlib.Core.Path.{sym, ap, ◌∙◌}
use native.Mathlib.Omega.{arith}
use Rattle.conditions.specs.Scanning.{weighed}
use Rattle.conditions.proofs.StackLaws.{ended_false, ended_true, ended_other}
use Rattle.conditions.proofs.stack.ended.Goals as goal

pub returns-in-1 : goal.returns-in-1
returns-in-1 c = λ st q. sym (ap weighed (ended_false st (sym q ∙ c.in-1.is)))

pub returns-in-2 : goal.returns-in-2
returns-in-2 c = λ st q. sym (ap weighed (ended_true st (sym q ∙ c.in-2.is)))

pub returns-in_default : goal.returns-in_default
returns-in_default c = λ st q. sym (ap weighed (ended_other st (λ e. omega arith) (λ e. omega arith)))
