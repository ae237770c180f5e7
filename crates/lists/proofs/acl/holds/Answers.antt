-- `holds` meets its contract: the SID after the mask ends where the entry does, or before; each test is one of the SID's.
-- Assumes nothing.
use mathlib.Core.Path.{sym}
use native.Mathlib.Omega.{arith}
use Rattle.lists.proofs.EntrySteps.{holds_short, holds_other, holds_many, holds_by_count}
use Rattle.lists.proofs.acl.holds.Goals as goal

pub returns-then-e-at-lt16 : goal.returns-then-e-at-lt16
returns-then-e-at-lt16 c =
    let a = c.args in
    sym (holds_short a.l.now a.at a.e c.requires.1 (omega arith))

pub returns-then-l-at-ne1 : goal.returns-then-l-at-ne1
returns-then-l-at-ne1 c =
    let a = c.args in
    sym (holds_other a.l.now a.at a.e c.requires.1 (omega arith) c.if-l-at-ne1.true)

pub returns-then-n-gt15 : goal.returns-then-n-gt15
returns-then-n-gt15 c =
    let a = c.args in
    sym (holds_many a.l.now a.at a.e c.requires.1 (omega arith) c.if-l-at-ne1.false c.from-n.result c.from-n.ensures
    c.if-n-gt15.true)

pub returns : goal.returns
returns c =
    let a = c.args in
    sym (holds_by_count a.l.now a.at a.e c.requires.1 (omega arith) c.if-l-at-ne1.false c.from-n.result c.from-n.ensures
    (omega arith))
