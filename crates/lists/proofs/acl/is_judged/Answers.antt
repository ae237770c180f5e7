-- `is_judged` meets its contract: in a DACL by `is_named`, in a SACL by the one test of the clause. Assumes nothing.
use mathlib.Core.Bool.{Bool}
use mathlib.Core.Path.{sym, ap, ◌∙◌}
use Rattle.lists.specs.Acl.{audits, judges}
use Rattle.lists.proofs.TypeLaws.{judges_deep, judges_shallow}
use Rattle.lists.proofs.acl.is_judged.Goals as goal

pub returns-then-deep : goal.returns-then-deep
returns-then-deep c =
    let a = c.args in
    c.is_named.ensures ∙ sym (ap (λ (t : Bool). judges t a.kind) c.if-deep.true ∙ judges_deep a.kind)

pub returns-else-deep : goal.returns-else-deep
unfolding audits
returns-else-deep c =
    let a = c.args in
    sym (ap (λ (t : Bool). judges t a.kind) c.if-deep.false ∙ judges_shallow a.kind)
