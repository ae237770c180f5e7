-- `is_callback` meets its contract: the two tests are those of the clause. Assumes nothing.
use native.Mathlib.Omega.{arith}
use Rattle.std.proofs.lemmas.Bool.Decides.{nat_tests}
use Rattle.lists.specs.Acl.{callback}
use Rattle.lists.proofs.acl.is_callback.Goals as goal

pub returns-in-9 : goal.returns-in-9
unfolding callback
returns-in-9 c = grind (arith, nat_tests)

pub returns-in_default : goal.returns-in_default
unfolding callback
returns-in_default c = grind (arith, nat_tests)

pub returns-in_default-2 : goal.returns-in_default-2
unfolding callback
returns-in_default-2 c = grind (arith, nat_tests)
