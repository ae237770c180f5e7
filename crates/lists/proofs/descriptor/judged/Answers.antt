-- `judged` meets its contract: each way out is a test of the definition, with those before it failed. Assumes nothing.
use Rattle.lists.proofs.HandedLaws.{none_is, handed_ownerless, handed_foreign, handed_whole}
use Rattle.lists.proofs.descriptor.judged.Goals as goal

pub returns-in_default : goal.returns-in_default
returns-in_default c = λ x y z w p q r t. let a = c.args in handed_ownerless x y z w a.o a.g a.s a.a p q r t c.in_default.is

pub returns-then-is_alien : goal.returns-then-is_alien
returns-then-is_alien c =
    λ x y z w p q r t.
    let a = c.args in
    handed_foreign x y z w a.o a.g a.s a.a p q r t c.in-Some.owner c.in-Some.is _ c.is_alien.ensures c.if-is_alien.true

pub returns : goal.returns
returns c =
    λ x y z w p q r t.
    let a = c.args in
    handed_whole x y z w a.o a.g a.s a.a p q r t c.in-Some.owner c.in-Some.is _ c.is_alien.ensures c.if-is_alien.false _ (none_is a.a _ c.is_none.ensures)
    _ _ _ c.place_of.ensures c.place_of-2.ensures c.place_of-3.ensures
