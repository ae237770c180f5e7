-- `few_beside` meets its contract: the count stands after the first SID, or at the front where none stands.
-- Assumes nothing.
use Prim.Native.Nat.{ℕ}
use mathlib.Core.Path.{ap, ◌∙◌}
use lib.Dec.{ltb}
use Rattle.base.specs.Bytes.{u32_at}
use Rattle.access.proofs.SeatingLaws.{place_or_front}
use Rattle.access.proofs.evaluate.few_beside.Goals as goal

pub returns : goal.returns
returns c =
    let a = c.args in
    ap (λ (n : ℕ). ltb n a.n)
    (c.u32_at.ensures ∙ ap (u32_at a.listing.now) (place_or_front _ _ _ c.sid_end.ensures.value c.unwrap_or-e.ensures))
