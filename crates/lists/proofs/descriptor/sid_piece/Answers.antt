-- `sid_piece` meets its contract: each way out is a case of the definition. Assumes nothing.
use mathlib.Core.Path.{sym, ap, ◌∙◌}
use native.Mathlib.Omega.{arith}
use Rattle.base.proofs.FoundLaws.{none_found, place_found}
use Rattle.sids.specs.Sid.{sid_end}
use Rattle.lists.specs.Descriptor.Piece.{At}
use Rattle.lists.specs.Handed.{piece_result}
use Rattle.lists.proofs.DescriptorSteps.{sid_piece_absent, sid_piece_low, sid_piece_bad, sid_piece_at}
use Rattle.lists.proofs.descriptor.sid_piece.Goals as goal

pub returns-then-off-eq0 : goal.returns-then-off-eq0
returns-then-off-eq0 c = let a = c.args in sym (ap piece_result (sid_piece_absent a.d.now a.off (omega arith)))

pub returns-then-off-lt20 : goal.returns-then-off-lt20
returns-then-off-lt20 c = let a = c.args in sym (ap piece_result (sid_piece_low a.d.now a.off c.if-off-eq0.false (omega arith)))

pub returns-in_default : goal.returns-in_default
returns-in_default c =
    let a = c.args in
    let none = none_found (sid_end a.d.now a.off) (sym c.in_default.is ∙ c.sid_end.ensures.value) in
    sym (ap piece_result (sid_piece_bad a.d.now a.off (omega arith) none))

pub returns : goal.returns
returns c =
    let a = c.args in
    let p = place_found (sid_end a.d.now a.off) c.in-Some.to c.in-Some.ensures.value in
    ap piece_result (ap (At a.off) (sym p.is) ∙ sym (sid_piece_at a.d.now a.off (omega arith) (λ z. p.there (sym p.is ∙ z))))
