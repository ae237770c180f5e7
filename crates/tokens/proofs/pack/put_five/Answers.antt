-- `put_five` meets its contract: four groups that are not the last, and the last. After each, writing the number at `o` is writing the
-- groups that are left at the next place (Writes). Assumes nothing.
use Prim.Native.Nat.{ℕ, ◌+◌, ◌/◌, ◌%◌, ◌≤◌}
use mathlib.Core.List.{List}
use mathlib.Core.Path.{◌≡◌, sym}
use native.Mathlib.Nat.{div-div-eq-div-mul}
use native.Mathlib.Omega.{arith}
use lib.ListN.{set, length-set}
use Rattle.base.proofs.WriteLaws.{Writes, writes_start, writes_room, writes_more, writes_last}
use Rattle.tokens.proofs.pack.put_five.Goals as goal
use Rattle.tokens.proofs.pack.put_five.Goals.{Start}

-- one group more, whatever the way to write what is left and the next place
step : {out₀ : List ℕ} {o v : ℕ} {out : List ℕ} {n i : ℕ} (less next : ℕ) → less ≡ n / 128 → next ≡ i + 1 →
    Writes out₀ o v out n i → 128 ≤ n → Writes out₀ o v (set out i (128 + n % 128)) less next
step less next e k x h = rw (e, k) (writes_more x h)

-- the buffer after each of the four groups that are not the last
abbrev after_one : Start → List ℕ
after_one z = set z.args.out.now z.args.o (128 + z.args.v % 128)

abbrev after_two : Start → List ℕ
after_two z = set (after_one z) (z.args.o + 1) (128 + z.args.v / 128 % 128)

abbrev after_three : Start → List ℕ
after_three z = set (after_two z) (z.args.o + 2) (128 + z.args.v / 16384 % 128)

abbrev after_four : Start → List ℕ
after_four z = set (after_three z) (z.args.o + 3) (128 + z.args.v / 2097152 % 128)

abbrev Done : Start → List ℕ → ℕ → ℕ → Type 0
Done z out n i = Writes z.args.out.now z.args.o z.args.v out n i

none_yet : (z : Start) → Done z z.args.out.now z.args.v z.args.o
none_yet z = writes_start z.args.out.now z.args.o z.args.v z.ranges.v.fits

one_done : (z : Start) → Done z (after_one z) (z.args.v / 128) (z.args.o + 1)
one_done z = writes_more (none_yet z) (omega (arith, z.requires.0))

two_done : (z : Start) → Done z (after_two z) (z.args.v / 16384) (z.args.o + 2)
two_done z = step _ _ (sym (div-div-eq-div-mul z.args.v 128 128)) (omega arith) (one_done z) (omega (arith, z.requires.0))

three_done : (z : Start) → Done z (after_three z) (z.args.v / 2097152) (z.args.o + 3)
three_done z = step _ _ (sym (div-div-eq-div-mul z.args.v 16384 128)) (omega arith) (two_done z) (omega (arith, z.requires.0))

four_done : (z : Start) → Done z (after_four z) (z.args.v / 268435456) (z.args.o + 4)
four_done z = step _ _ (sym (div-div-eq-div-mul z.args.v 2097152 128)) (omega arith) (three_done z) (omega (arith, z.requires.0))

pub bounds-out-o : goal.bounds-out-o
bounds-out-o c = omega (arith, writes_room (none_yet (goal.at.bounds-out-o c).Start), c.requires.2)

pub bounds-out-o-2 : goal.bounds-out-o-2
bounds-out-o-2 c = simp length-set (omega (arith, writes_room (one_done (goal.at.bounds-out-o-2 c).Start), c.requires.2))

pub bounds-out-o-3 : goal.bounds-out-o-3
bounds-out-o-3 c = simp length-set (omega (arith, writes_room (two_done (goal.at.bounds-out-o-3 c).Start), c.requires.2))

pub bounds-out-o-4 : goal.bounds-out-o-4
bounds-out-o-4 c = simp length-set (omega (arith, writes_room (three_done (goal.at.bounds-out-o-4 c).Start), c.requires.2))

pub bounds-out-o-5 : goal.bounds-out-o-5
bounds-out-o-5 c = simp length-set (omega (arith, writes_room (four_done (goal.at.bounds-out-o-5 c).Start), c.requires.2))

pub returns : goal.returns
returns c =
    let five : c.args.o + 5 ≡ c.args.o + 4 + 1 = omega arith in
    rw five (writes_last (four_done (goal.at.returns c).Start) (omega (arith, c.requires.1)))
