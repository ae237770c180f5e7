-- `listed_in_room` meets its contract: too long is a listing that is longer than the buffer, else its bytes are copied. Where the record
-- is refused nothing is copied.
-- Assumes nothing.
use Prim.Native.Nat.{ℕ, ◌≤◌}
use mathlib.Core.Path.{◌≡◌, sym, ap, ◌∙◌}
use mathlib.Core.List.{List}
use mathlib.Core.Bool.{true}
use native.Mathlib.Omega.{arith}
use lib.ListN.{length, replicate, length-replicate}
use lib.Seq.{sets}
use Rattle.std.proofs.lemmas.Result.{err_from_is_err_and}
use Rattle.base.proofs.BytesLaws.{part_front}
use Rattle.records.specs.Unpacking.{room_fits}
use Rattle.tokens.specs.Answers.{number_of}
use Rattle.tokens.specs.Judging.{Extent, listed_in, room_after}
use Rattle.tokens.proofs.ConvertLaws.{Listed, listed_in_lem, fitted_longer, within_answer, within_bytes}
use Rattle.tokens.proofs.flat.listed_in_room.Goals as goal

-- the listing stands in a room of n bytes
listed : (n : ℕ) (s exit : List ℕ) (r : Extent) → room_fits n (length s) ≡ true → r ≡ listed_in (length (replicate {A = ℕ} n 0)) s →
    exit ≡ room_after s (replicate n 0) → r.length ≤ length (replicate {A = ℕ} n 0) → Listed s r exit
listed n s exit r fit e x h = listed_in_lem s (replicate n 0) exit r (rw (length-replicate {A = ℕ} n 0) fit) e x h

pub returns-in_err-n-clause-value : goal.returns-in_err-n-clause-value
returns-in_err-n-clause-value g c =
    let p = err_from_is_err_and c.from_residual.result c.from_residual.ensures.1 in
    let r : Extent = record { status = number_of c.in_err-n.field-0.0; length = 0; confined_at = 0 } in
    let l = listed g.row.N c.args.s.now c.list_in.new.room r c.requires.1 c.in_err-n.ensures.value c.in_err-n.ensures.room_after (omega arith) in
    rw (p.1, p.2) (within_answer c.args.s.now r _ l (length c.args.out.now) (omega arith))

pub returns-in_err-n-clause-out_after : goal.returns-in_err-n-clause-out_after
returns-in_err-n-clause-out_after g c =
    let r : Extent = record { status = number_of c.in_err-n.field-0.0; length = 0; confined_at = 0 } in
    let l = listed g.row.N c.args.s.now c.list_in.new.room r c.requires.1 c.in_err-n.ensures.value c.in_err-n.ensures.room_after (omega arith) in
    rw (within_bytes c.args.s.now r _ l (length c.args.out.now) (omega arith))

pub returns-then-out-n-clause-value : goal.returns-then-out-n-clause-value
returns-then-out-n-clause-value g c =
    let e = c.in_ok-n.field-0 in
    let r : Extent = record { status = 0; length = e.length; confined_at = e.confined_at } in
    let l = listed g.row.N c.args.s.now c.list_in.new.room r c.requires.1 c.in_ok-n.ensures.value c.in_ok-n.ensures.room_after
    c.in_ok-n.ensures.length_in_bounds.0 in
    rw (fitted_longer c.args.s.now r _ l (length c.args.out.now) c.if-out-n.true)

pub returns-then-out-n-clause-out_after : goal.returns-then-out-n-clause-out_after
returns-then-out-n-clause-out_after g c =
    let e = c.in_ok-n.field-0 in
    let r : Extent = record { status = 0; length = e.length; confined_at = e.confined_at } in
    let l = listed g.row.N c.args.s.now c.list_in.new.room r c.requires.1 c.in_ok-n.ensures.value c.in_ok-n.ensures.room_after
    c.in_ok-n.ensures.length_in_bounds.0 in
    rw (fitted_longer c.args.s.now r _ l (length c.args.out.now) c.if-out-n.true)

pub returns-clause-value : goal.returns-clause-value
returns-clause-value g c =
    let e = c.in_ok-n.field-0 in
    let r : Extent = record { status = 0; length = e.length; confined_at = e.confined_at } in
    let l = listed g.row.N c.args.s.now c.list_in.new.room r c.requires.1 c.in_ok-n.ensures.value c.in_ok-n.ensures.room_after
    c.in_ok-n.ensures.length_in_bounds.0 in
    within_answer c.args.s.now r _ l (length c.args.out.now) c.if-out-n.false

pub returns-clause-out_after : goal.returns-clause-out_after
returns-clause-out_after g c =
    let e = c.in_ok-n.field-0 in
    let r : Extent = record { status = 0; length = e.length; confined_at = e.confined_at } in
    let l = listed g.row.N c.args.s.now c.list_in.new.room r c.requires.1 c.in_ok-n.ensures.value c.in_ok-n.ensures.room_after
    c.in_ok-n.ensures.length_in_bounds.0 in
    c.copy.ensures ∙ ap (sets c.args.out.now 0) (sym (within_bytes c.args.s.now r _ l (length c.args.out.now) c.if-out-n.false
    ∙ part_front c.list_in.new.room e.length))
