-- "source .., entry number .. and mask as stored, all in sevens, in stored order, into a lent buffer" (request 105).
use Rattle.std.specs.Prelude.{ℕ, List, [], ◌∷◌, ◌++◌}
use Rattle.base.specs.Sevens.{packed}
use Rattle.audit.specs.Events.{Event}

abbrev pub event_bytes : Event → List ℕ
event_bytes e = packed e.source ++ (packed e.entry ++ packed e.mask)

unfoldable pub trail_bytes : List Event → List ℕ
trail_bytes [] = []
trail_bytes (e ∷ es) = event_bytes e ++ trail_bytes es
