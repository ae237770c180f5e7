-- A worked trail (request 105), by computation: the descriptor's SACL and the rule's raise an event each, with the sources 0 and 1; the rule's
-- staged SACL has the entry twice, so that the flag is raised (trail_holds); six bytes are room enough, and five are not (trail_exact,
-- trail_short).
-- Assumes nothing.
use mathlib.Core.Path.{◌≡◌, refl}
use mathlib.Core.List.{[], ◌∷◌}
use mathlib.Core.Bool.{true}
use Rattle.access.specs.Status.{Question}
use Rattle.access.specs.Reported.{report, refusal, report_of, in_buffer}
use Rattle.cards.specs.Cards.{given}
use Rattle.cards.proofs.DemandThreeMet.{ours, watched}
use Rattle.cards.proofs.Opened.{the_page}

-- `watched` with a SACL in its rule, and a staged one
abbrev traced : Question
traced =
    record {
      kind = 1;
      mask = 3;
      token = watched.token;
      self = [];
      descriptor = watched.descriptor;
      policy =
          1 ∷ 1 ∷ 0 ∷ 0 ∷ 0 ∷ 0 ∷ 0 ∷ 0 ∷ 0
          ∷ 32 ∷ 0 ∷ 0 ∷ 0 ∷ 2 ∷ 0 ∷ 32 ∷ 0 ∷ 1 ∷ 0 ∷ 0 ∷ 0
          ∷ 0 ∷ 0 ∷ 24 ∷ 0 ∷ 3 ∷ 0 ∷ 0 ∷ 0 ∷ 1 ∷ 2 ∷ 0 ∷ 0 ∷ 0 ∷ 0 ∷ 0 ∷ 5 ∷ 0 ∷ 0 ∷ 0 ∷ 0 ∷ 7 ∷ 0 ∷ 0 ∷ 0
          ∷ 32 ∷ 0 ∷ 0 ∷ 0 ∷ 2 ∷ 0 ∷ 32 ∷ 0 ∷ 1 ∷ 0 ∷ 0 ∷ 0
          ∷ ours 0 (0 ∷ 0 ∷ 0 ∷ 0
          ∷ 56 ∷ 0 ∷ 0 ∷ 0 ∷ 2 ∷ 0 ∷ 56 ∷ 0 ∷ 2 ∷ 0 ∷ 0 ∷ 0
          ∷ ours 0 (ours 0 []));
    }

pub trail_holds : report_of traced ≡ report (given 3 true true) (0 ∷ 0 ∷ 3 ∷ 1 ∷ 0 ∷ 3 ∷ [])
unfolding the_page
trail_holds = refl

pub trail_exact : in_buffer 6 (report_of traced) ≡ report_of traced
unfolding the_page
trail_exact = refl

pub trail_short : in_buffer 5 (report_of traced) ≡ refusal 11
unfolding the_page
trail_short = refl
