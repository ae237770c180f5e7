-- `convert` is safe: what a converter wrote lies in the room.
-- Assumes nothing.
use lib.ListN.{replicate}
use Rattle.records.specs.Converters.{as_listing, as_record}
use Rattle.token.proofs.RoomLaws.{made_inside}
use Rattle.token.proofs.convert.Goals as goal

pub put-requires : goal.put-requires
put-requires c =
    let r = c.to_listing-made in made_inside (replicate 28021 0) _ (as_listing c.args.file.now) r.result r.ensures.value r.ensures.out_after

pub put-requires-in-Pack : goal.put-requires-in-Pack
put-requires-in-Pack c =
    let r = c.to_record-made in made_inside (replicate 28021 0) _ (as_record c.args.file.now) r.result r.ensures.value r.ensures.out_after
