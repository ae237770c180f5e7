-- `unpack` meets its contract: what was unpacked stands, and a refusal clears the buffer.
-- Assumes nothing.
use mathlib.Core.Path.{◌≡◌, sym, ◌∙◌}
use mathlib.Core.Bool.{true}
use native.Mathlib.Omega.{arith}
use lib.ListN.{length}
use Rattle.records.specs.Unpacking.{room_fits}
use Rattle.records.specs.TokenRecord.{read_record}
use Rattle.records.proofs.RecordAnswer.{unpacked_none, none_filled}
use Rattle.records.proofs.unpacking.unpack.Goals as goal

pub returns-then-is_none-clause-unpacked : goal.returns-then-is_none-clause-unpacked
returns-then-is_none-clause-unpacked c =
    let a = c.args in
    let fit : room_fits (length a.out.now) (length a.s.now) ≡ true = sym c.has_room.ensures ∙ c.if-not-has_room.false in
    let long : length c.unpack_record-filled.new.out ≡ length a.out.now = omega arith in
    unpacked_none _ fit a.out.now c.unpack_record-filled.new.out _ (read_record a.s.now) _ c.unpack_record-filled.ensures.unpacks
    (none_filled c.unpack_record-filled.result (rw (c.is_none.ensures, c.if-is_none.true))) c.clear-then-is_none.ensures long
