-- `put_event` meets its contract: three numbers, one after the other. Assumes nothing.
use mathlib.Core.List.{◌++◌}
use native.Mathlib.Omega.{arith}
use Rattle.base.specs.Sevens.{packed}
use Rattle.base.proofs.SevensLaws.{packed_length_32}
use Rattle.audit.proofs.NotingLaws.{noted_both, room_first, room_second}
use Rattle.audit.proofs.writing.put_event.Goals as goal

pub put-a-requires : goal.put-a-requires
put-a-requires c =
    let a = c.args in (
      omega (arith, c.requires.0),
      room_first a.out.now a.o (packed a.e.source) (packed a.e.entry ++ packed a.e.mask.0) c.requires.1,
    )

pub put-b-requires : goal.put-b-requires
put-b-requires c =
    let a = c.args in (
      omega (arith, c.requires.0, c.put-a.ensures.place, packed_length_32 a.e.source (omega arith)),
      room_first c.put-a.new.out c.put-a.result (packed a.e.entry) (packed a.e.mask.0)
          (room_second (packed a.e.entry ++ packed a.e.mask.0) c.put-a.ensures c.requires.1),
    )

pub put-requires : goal.put-requires
put-requires c =
    let a = c.args in (
      omega (
        arith,
        c.requires.0,
        c.put-a.ensures.place,
        c.put-b.ensures.place,
        packed_length_32 a.e.source (omega arith),
        packed_length_32 a.e.entry (omega arith),
      ),
      room_second (packed a.e.mask.0) c.put-b.ensures
          (room_second (packed a.e.entry ++ packed a.e.mask.0) c.put-a.ensures c.requires.1),
    )

pub returns : goal.returns
returns c =
    let a = c.args in
    record {
      noted = noted_both c.put-a.ensures (noted_both c.put-b.ensures c.put.ensures);
      upper_bound = omega (
        arith,
        c.put-a.ensures.place,
        c.put-b.ensures.place,
        c.put.ensures.place,
        packed_length_32 a.e.source (omega arith),
        packed_length_32 a.e.entry (omega arith),
        packed_length_32 a.e.mask.0 (omega arith),
      );
    }
