-- Request 101's `same_reading` is not empty: two questions whose lists differ in spare bytes meet its conditions by computation.
-- alike_reading. Assumes nothing.
use mathlib.Core.Path.{refl}
use mathlib.Core.List.{[], ◌∷◌}
use Rattle.access.specs.Status.{Question}
use Rattle.demands.specs.Accepted.{Accepted}
use Rattle.demands.specs.LongEntries.{ReadTheSame}
use Rattle.cards.specs.Cards.{asks, TU}
use Rattle.cards.proofs.DemandThreeMet.{ours, watched}
use Rattle.cards.proofs.Opened.{the_page}

-- `watched` with 8 spare bytes in the descriptor's entry, which look like a deny entry's front, 4 in its audit entry, and 4 in the rule's
abbrev long : Question
long =
    asks 1 3 TU []
    (1 ∷ 0 ∷ 20 ∷ 128 ∷ 20 ∷ 0 ∷ 0 ∷ 0 ∷ 0 ∷ 0 ∷ 0 ∷ 0 ∷ 72 ∷ 0 ∷ 0 ∷ 0 ∷ 32 ∷ 0 ∷ 0 ∷ 0
    ∷ 1 ∷ 1 ∷ 0 ∷ 0 ∷ 0 ∷ 0 ∷ 0 ∷ 5 ∷ 7 ∷ 0 ∷ 0 ∷ 0
    ∷ 2 ∷ 0 ∷ 40 ∷ 0 ∷ 1 ∷ 0 ∷ 0 ∷ 0
    ∷ 0 ∷ 0 ∷ 32 ∷ 0 ∷ 3 ∷ 0 ∷ 0 ∷ 0 ∷ 1 ∷ 2 ∷ 0 ∷ 0 ∷ 0 ∷ 0 ∷ 0 ∷ 5 ∷ 0 ∷ 0 ∷ 0 ∷ 0 ∷ 7 ∷ 0 ∷ 0 ∷ 0
    ∷ 1 ∷ 0 ∷ 24 ∷ 0 ∷ 255 ∷ 255 ∷ 255 ∷ 255
    ∷ 2 ∷ 0 ∷ 36 ∷ 0 ∷ 1 ∷ 0 ∷ 0 ∷ 0 ∷ ours 4 (255 ∷ 255 ∷ 255 ∷ 255 ∷ []))
    (1 ∷ 1 ∷ 0 ∷ 0 ∷ 0
    ∷ 0 ∷ 0 ∷ 0 ∷ 0
    ∷ 36 ∷ 0 ∷ 0 ∷ 0 ∷ 2 ∷ 0 ∷ 36 ∷ 0 ∷ 1 ∷ 0 ∷ 0 ∷ 0
    ∷ 0 ∷ 0 ∷ 28 ∷ 0 ∷ 3 ∷ 0 ∷ 0 ∷ 0 ∷ 1 ∷ 2 ∷ 0 ∷ 0 ∷ 0 ∷ 0 ∷ 0 ∷ 5 ∷ 0 ∷ 0 ∷ 0 ∷ 0 ∷ 7 ∷ 0 ∷ 0 ∷ 0 ∷ 255 ∷ 255 ∷ 255 ∷ 255
    ∷ 0 ∷ 0 ∷ 0 ∷ 0 ∷ 0 ∷ 0 ∷ 0 ∷ 0 ∷ 0 ∷ 0 ∷ 0 ∷ 0 ∷ [])

pub record Instances : Type 0 where
  pub long_accepted : Accepted long
  pub alike_reading : ReadTheSame watched long

pub instances : Instances
unfolding the_page
instances =
    record {
      long_accepted = refl;
      alike_reading =
          record {
            kind = refl;
            mask = refl;
            token = refl;
            self = refl;
            owner = refl;
            present = refl;
            list = refl;
            sacl = refl;
            rules = refl;
          };
    }
