-- What a converter reports as written lies in the buffer that was lent.
-- Assumes nothing.
use Prim.Native.Nat.{ℕ, ◌≤◌}
use mathlib.Core.Path.{◌≡◌, refl, ap}
use mathlib.Core.List.{List}
use mathlib.Core.Bool.{Bool, true, false, cond}
use native.Mathlib.Omega.{arith}
use lib.Dec.{ltb}
use lib.ListN.{length}
use lib.Seq.{sets, length-sets}
use borrow.Author.Tests.{ltb-false}
use Rattle.records.specs.Converters.{Conversion, refusal, fitted}
use Rattle.std.specs.Prelude.{Result, Ok, Err, IfOk}
use Rattle.tokens.specs.Answers.{Converted, answered, converted_by}
use Rattle.tokens.specs.declared.refusal.Refusal.{Refusal}

fitted_room : (room : ℕ) (c : Conversion) → length (fitted room c).bytes ≤ room
unfolding fitted
fitted_room room c = go (ltb room (length c.bytes)) refl
  where
    go : (b : Bool) → ltb room (length c.bytes) ≡ b → length (cond b (refusal 11) c).bytes ≤ room
    go true e = omega arith
    go false e = ltb-false room (length c.bytes) e

pub written_inside : (entry exit : List ℕ) (c : Conversion) (r : Converted) → r ≡ answered (fitted (length entry) c) →
    exit ≡ sets entry 0 (fitted (length entry) c).bytes → r.length ≤ length exit
written_inside entry exit c r e f =
    let long : r.length ≡ length (fitted (length entry) c).bytes = ap (λ (x : Converted). x.length) e in
    let kept : length exit ≡ length (sets entry 0 (fitted (length entry) c).bytes) = ap length f in
    omega (arith, length-sets entry 0 (fitted (length entry) c).bytes, fitted_room (length entry) c)

pub made_inside : (entry exit : List ℕ) (c : Conversion) (r : Result ℕ Refusal) → converted_by r ≡ answered (fitted (length entry) c) →
    exit ≡ sets entry 0 (fitted (length entry) c).bytes → IfOk r (λ n. n ≤ length exit)
made_inside entry exit c (Ok n) e f = written_inside entry exit c (converted_by (Ok n)) e f
made_inside entry exit c (Err r) e f = tt
