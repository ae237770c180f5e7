-- `acl_piece` meets its contract: each way out is a case of the definition. Assumes nothing.
use Prim.Native.Nat.{ℕ, ◌≤◌}
use mathlib.Core.List.{List}
use mathlib.Core.Bool.{Bool, true}
use mathlib.Core.Path.{◌≡◌, sym, ap, ◌∙◌}
use native.Mathlib.Omega.{arith}
use Rattle.base.specs.Bytes.{part}
use Rattle.base.proofs.FoundLaws.{Place, none_found, place_found}
use Rattle.conditions.specs.Scanning.{Scan}
use Rattle.conditions.specs.Scanning.Scan.{Broken, Foreign, Plain}
use Rattle.lists.specs.Acl.{acl_end, scan_of}
use Rattle.lists.specs.Descriptor.{acl_piece, piece_of}
use Rattle.lists.specs.Handed.{piece_result}
use Rattle.lists.proofs.DescriptorSteps.{acl_piece_absent, acl_piece_low, acl_piece_bad, acl_piece_of}
use Rattle.lists.proofs.EntrySteps.{content_broken, content_other, content_fine}
use Rattle.lists.proofs.descriptor.acl_piece.Goals as goal

pub returns-then-not-followed : goal.returns-then-not-followed
returns-then-not-followed c =
    let a = c.args in
    sym (ap piece_result (ap (λ (t : Bool). acl_piece a.deep a.d.now t a.at) c.if-not-followed.true ∙ acl_piece_absent a.deep a.d.now a.at))

pub returns-then-at-lt20 : goal.returns-then-at-lt20
returns-then-at-lt20 c =
    let a = c.args in
    sym (ap piece_result (ap (λ (t : Bool). acl_piece a.deep a.d.now t a.at) c.if-not-followed.false
    ∙ acl_piece_low a.deep a.d.now a.at (omega arith)))

pub returns-in_default : goal.returns-in_default
returns-in_default c =
    let a = c.args in
    let none = none_found (acl_end a.d.now a.at) (sym c.in_default.is ∙ c.acl_end.ensures.value) in
    sym (ap piece_result (ap (λ (t : Bool). acl_piece a.deep a.d.now t a.at) c.if-not-followed.false
    ∙ acl_piece_bad a.deep a.d.now a.at (omega arith) none))

-- a list that stands at the offset, by what its entries are found to be
stands : (deep followed : Bool) (d : List ℕ) (at e : ℕ) (v : Scan) → followed ≡ true → 20 ≤ at → Place (acl_end d at) e →
    scan_of deep (part d at e) ≡ v → piece_result (piece_of at e v) ≡ piece_result (acl_piece deep d followed at)
stands deep followed d at e v t l k s =
    ap piece_result (ap (piece_of at e) (sym s)
    ∙ ap (λ (x : ℕ). piece_of at x (scan_of deep (part d at x))) (sym k.is)
    ∙ sym (ap (λ (f : Bool). acl_piece deep d f at) t ∙ acl_piece_of deep d at l (λ z. k.there (sym k.is ∙ z))))

pub returns-in-Err-Broken : goal.returns-in-Err-Broken
returns-in-Err-Broken c =
    let a = c.args in
    let e = c.in-Some.to in
    let k = place_found (acl_end a.d.now a.at) e c.in-Some.ensures.value in
    let s = content_broken (scan_of a.deep (part a.d.now a.at e)) _ c.in-Err-Broken.field-0-is (sym c.in-Err-Broken.is ∙ c.scan_entries.ensures) in
    stands a.deep a.followed a.d.now a.at e Broken c.if-not-followed.false (omega arith) k s

pub returns-in-Err-Foreign : goal.returns-in-Err-Foreign
returns-in-Err-Foreign c =
    let a = c.args in
    let e = c.in-Some.to in
    let k = place_found (acl_end a.d.now a.at) e c.in-Some.ensures.value in
    let s = content_other (scan_of a.deep (part a.d.now a.at e)) _ c.in-Err-Foreign.field-0-is (sym c.in-Err-Foreign.is ∙ c.scan_entries.ensures) in
    stands a.deep a.followed a.d.now a.at e Foreign c.if-not-followed.false (omega arith) k s

pub returns-in-Ok : goal.returns-in-Ok
returns-in-Ok c =
    let a = c.args in
    let e = c.in-Some.to in
    let k = place_found (acl_end a.d.now a.at) e c.in-Some.ensures.value in
    let s = content_fine (scan_of a.deep (part a.d.now a.at e)) _ (sym c.in-Ok.is ∙ c.scan_entries.ensures) in
    stands a.deep a.followed a.d.now a.at e Plain c.if-not-followed.false (omega arith) k s
