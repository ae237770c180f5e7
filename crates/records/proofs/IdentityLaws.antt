-- One identity where its bytes stand: it ends where they do.
-- Assumes nothing.
use Prim.Native.Nat.{ℕ, ◌+◌}
use mathlib.Core.Path.{◌≡◌, ap, ◌∙◌}
use mathlib.Core.List.{List}
use mathlib.Core.Bool.{true}
use native.Mathlib.Omega.{arith}
use lib.ListN.{length}
use Rattle.base.proofs.BytesLaws.{part_of_drop}
use Rattle.base.proofs.PlaceLaws.{Stands, stands_end}
use Rattle.sids.specs.Sid.{sid_end, is_sid}
use Rattle.sids.proofs.SidLaws.{sid_end_of_part}

pub sid_end_stands : {s : List ℕ} {at : ℕ} {w q : List ℕ} → is_sid w ≡ true → Stands s at w q → sid_end s at ≡ at + length w
sid_end_stands {s} {at} {w} {q} h x =
    sid_end_of_part s at (at + length w) (omega arith) (stands_end x) (ap is_sid (part_of_drop s w q at x.here) ∙ h)
