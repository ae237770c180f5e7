-- `head` meets its contract: what stands under the key, where it is a number of a seat.
-- Assumes nothing.
use Prim.Native.Nat.{ℕ, ◌<◌}
use mathlib.Core.Path.{◌≡◌, sym, ap, ◌∙◌}
use native.Mathlib.Omega.{arith}
use lib.ListN.{length, get_or}
use Rattle.seats.specs.Key.{key_of}
use Rattle.passes.proofs.ChainsLaws.{head_past, head_within}
use Rattle.passes.proofs.search.head.Goals as goal
use Rattle.passes.proofs.search.head.Goals.{After-from-n}

-- what was read is the head of the SID's key
read : (c : After-from-n) → c.from-n.result ≡ get_or c.args.heads.now
    (key_of c.args.w.now) 0
read c = c.from-n.ensures ∙ ap (λ (k : ℕ). get_or c.args.heads.now k 0)
    c.key-k.ensures.value

pub returns-then-seats-n : goal.returns-then-seats-n
returns-then-seats-n c =
    let a = c.args in
    record { value = sym (head_past a.heads.now a.seats.now a.w.now c.from-n.result (read (goal.at.returns-then-seats-n c).After-from-n) c.if-seats-n.true); upper_bound = omega arith }

pub returns : goal.returns
returns c =
    let a = c.args in
    let within : c.from-n.result < length a.seats.now = omega (arith, c.if-seats-n.false) in
    record { value = sym (head_within a.heads.now a.seats.now a.w.now c.from-n.result (read (goal.at.returns c).After-from-n) within); upper_bound = omega arith }
