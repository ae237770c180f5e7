-- `push` meets its contract: a word of more than 62 bits has 32 digits already. Assumes nothing.
use Prim.Native.Nat.{ℕ}
use mathlib.Core.Path.{sym, ap, ◌∙◌}
use native.Mathlib.Omega.{arith}
use Rattle.std.specs.Prelude.{Result, Ok}
use Rattle.conditions.specs.Stack.{item_of, step_of}
use Rattle.conditions.specs.declared.fault.Fault.{Fault}
use Rattle.conditions.specs.declared.stack.Stack.{Stack}
use Rattle.conditions.proofs.StackLaws.{push_broken, push_on}
use Rattle.conditions.proofs.stack.push.Goals as goal

pub returns-then-rest-gt4611686018427387903 : goal.returns-then-rest-gt4611686018427387903
returns-then-rest-gt4611686018427387903 c = λ st q. let a = c.args in sym (ap step_of (push_broken a.next (item_of a.x) st (omega arith)))

pub returns : goal.returns
returns c =
    λ st q.
    let a = c.args in
    let f : Stack → Result (ℕ × Stack) Fault = λ m. Ok (a.next, m) in
    ap f (c.on.ensures st q) ∙ sym (ap step_of (push_on a.next (item_of a.x) st (omega arith)))
