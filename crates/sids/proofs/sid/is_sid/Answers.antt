-- `is_sid` meets its contract: the SID at the front ends where the bytes do.
-- Assumes nothing.
use Prim.Native.Nat.{ℕ}
use mathlib.Core.Path.{◌≡◌, refl, ap, ◌∙◌}
use mathlib.Core.Bool.{Bool, true, false, cond}
use lib.ListN.{length}
use lib.Dec.{eqb}
use Rattle.std.specs.Option.{option_eq}
use Rattle.std.specs.Prelude.{Option, None, Some}
use Rattle.base.specs.Bytes.{found}
use Rattle.sids.specs.Sid.{sid_end, is_sid}
use Rattle.sids.proofs.sid.is_sid.Goals as goal

-- a place is there and equals n
ends_at : (e n : ℕ) → option_eq eqb (found e) (Some n) ≡ cond (eqb e 0) false (eqb e n)
unfolding found
ends_at e n = go (eqb e 0)
  where
    go : (t : Bool) → option_eq eqb (cond t None (Some e)) (Some n) ≡ cond t false (eqb e n)
    go true = refl
    go false = refl

pub returns : goal.returns
unfolding is_sid
returns c =
    let l = c.args.s.now in
    c.eq.ensures ∙ ap (λ (x : Option ℕ). option_eq eqb x (Some (length l))) c.sid_end.ensures.value ∙ ends_at (sid_end l 0) (length l)
