-- `number` meets its contract: each verdict is told by what the read answers.
-- Assumes nothing.
use Rattle.std.proofs.Common.{◌≡◌, ℕ, refl, sym, ap, ◌∙◌}
use Rattle.std.specs.Prelude.{Ok, Err}
use Rattle.lists.specs.Descriptor.{Verdict, Whole, Misshapen, Ownerless, ForeignEntry, number_of, parts_of}
use Rattle.lists.specs.Handed.{refused_by}
use Rattle.lists.specs.declared.descriptor.Descriptor.{Descriptor}
use Rattle.lists.specs.declared.descriptor.Refusal.{Refusal}
use Rattle.lists.specs.declared.descriptor.Refusal.TheVariants as refusal
use Rattle.damaged.proofs.number.Goals as goal

abbrev page : Refusal → ℕ
page refusal.Misshapen = 6
page refusal.Ownerless = 7
page refusal.ForeignEntry = 8

whole : (v : Verdict) (x d : Descriptor) → Ok x ≡ refused_by v d → 0 ≡ number_of v
unfolding number_of
whole Whole x d e = refl
whole Misshapen x d e = cc
whole Ownerless x d e = cc
whole ForeignEntry x d e = cc

refused : (v : Verdict) (r : Refusal) (d : Descriptor) → Err r ≡ refused_by v d → page r ≡ number_of v
unfolding number_of
refused Whole r d e = cc
refused Misshapen r d e = let q : r ≡ refusal.Misshapen = cc in ap page q
refused Ownerless r d e = let q : r ≡ refusal.Ownerless = cc in ap page q
refused ForeignEntry r d e = let q : r ≡ refusal.ForeignEntry = cc in ap page q

pub returns-in-Ok : goal.returns-in-Ok
returns-in-Ok c = whole (parts_of c.args.d.now).verdict c.in-Ok.field-0 _ c.in-Ok.ensures.value

pub returns-in-Err-Misshapen : goal.returns-in-Err-Misshapen
returns-in-Err-Misshapen c =
    let i = c.in-Err-Misshapen in ap page (sym i.field-0-is) ∙ refused (parts_of c.args.d.now).verdict i.field-0 _ i.ensures.value

pub returns-in-Err-Ownerless : goal.returns-in-Err-Ownerless
returns-in-Err-Ownerless c =
    let i = c.in-Err-Ownerless in ap page (sym i.field-0-is) ∙ refused (parts_of c.args.d.now).verdict i.field-0 _ i.ensures.value

pub returns-in-Err-ForeignEntry : goal.returns-in-Err-ForeignEntry
returns-in-Err-ForeignEntry c =
    let i = c.in-Err-ForeignEntry in ap page (sym i.field-0-is) ∙ refused (parts_of c.args.d.now).verdict i.field-0 _ i.ensures.value
