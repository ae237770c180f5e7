-- `packed_in_room` meets its contract: too long is a record that is longer than the buffer, else its bytes are copied from the room.
-- Assumes nothing.
use Prim.Native.Nat.{ℕ}
use mathlib.Core.Path.{ap, ◌∙◌}
use lib.ListN.{length, replicate}
use lib.Seq.{sets}
use Rattle.base.proofs.WriteLaws.{wrote_length, sets_front, buffer_room}
use Rattle.records.specs.Packing.{record_bytes}
use Rattle.tokens.proofs.ToRecordLaws.{fitted_longer, fitted_within}
use Rattle.tokens.proofs.pack.packed_in_room.Goals as goal

pub returns-then-out-n : goal.returns-then-out-n
returns-then-out-n g c =
    let a = c.args in
    let f = fitted_longer (length a.out.now) c.pack-n.result (record_bytes a.s.now) (wrote_length c.pack-n.ensures) c.if-out-n.true in
    record { value = rw f; out_after = rw f }

pub returns : goal.returns
returns g c =
    let a = c.args in
    let n = wrote_length c.pack-n.ensures in
    let f = fitted_within (length a.out.now) c.pack-n.result (record_bytes a.s.now) n c.if-out-n.false in
    let w = sets_front (replicate g.row.N 0) c.pack-n.new.out (record_bytes a.s.now) c.pack-n.result n c.pack-n.ensures.bytes
    (rw n (buffer_room _ g.row.N c.requires.2)) in
    record { value = rw f (ap (λ (m : ℕ). record { status = 0; length = m }) n); out_after = rw f (c.copy.ensures ∙ ap (sets a.out.now 0) w) }
