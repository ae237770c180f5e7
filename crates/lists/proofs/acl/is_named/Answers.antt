-- `is_named` meets its contract: the two tests are those of the clause. Assumes nothing.
use mathlib.Core.Path.{sym, ◌∙◌}
use native.Mathlib.Omega.{arith}
use borrow.Author.Tests.{lt-ltb}
use Rattle.lists.proofs.TypeLaws.{named_low, named_high}
use Rattle.lists.proofs.acl.is_named.Goals as goal

pub returns-then-kind-lt2 : goal.returns-then-kind-lt2
returns-then-kind-lt2 c = lt-ltb c.args.kind 2 c.if-kind-lt2.true ∙ sym (named_low c.args.kind (omega arith))

pub returns-else-kind-lt2 : goal.returns-else-kind-lt2
returns-else-kind-lt2 c = c.is_callback.ensures ∙ sym (named_high c.args.kind (omega arith))
