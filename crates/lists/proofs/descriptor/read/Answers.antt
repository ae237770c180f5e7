-- `read` meets its contract: the four pieces are those of the definition, and what they come to lies inside. Assumes nothing.
use Prim.Native.Nat.{ℕ}
use mathlib.Core.Path.{◌≡◌, sym, ap, ap₂, ◌∙◌}
use mathlib.Core.Bool.{true, false}
use native.Mathlib.Omega.{arith}
use Rattle.std.specs.Prelude.{Err}
use Rattle.base.specs.Bits.{has}
use Rattle.lists.specs.Descriptor.{sid_piece, acl_piece}
use Rattle.lists.specs.Handed.{piece_result}
use Rattle.lists.proofs.HandedLaws.{handed_bad, read_by, read_owner, read_group, read_sacl, read_dacl, handed_inside}
use Rattle.lists.proofs.descriptor.read.Goals as goal

pub returns-then-not-heading-clause-value : goal.returns-then-not-heading-clause-value
returns-then-not-heading-clause-value c = handed_bad c.args.d.now (sym c.heading.ensures ∙ c.if-not-heading.true)

pub returns-in_err-o : goal.returns-in_err-o
returns-in_err-o c =
    let l = c.args.d.now in
    let h = sym c.heading.ensures ∙ c.if-not-heading.false in
    let up : c.from_residual.result ≡ Err c.in_err-o.field-0.0 = grind arith in
    let e =
    up
    ∙ read_owner l h
    c.in_err-o.field-0.0
    (c.in_err-o.ensures ∙ ap (λ (n : ℕ). piece_result (sid_piece l n)) c.u32_at.ensures) in
    record { value = e; inside = handed_inside l _ e }

pub returns-in_err-g : goal.returns-in_err-g
returns-in_err-g c =
    let l = c.args.d.now in
    let h = sym c.heading.ensures ∙ c.if-not-heading.false in
    let up : c.from_residual-in_err-g.result ≡ Err c.in_err-g.field-0.0 = grind arith in
    let e =
    up
    ∙ read_group l h
    _ (c.in_ok-o.ensures ∙ ap (λ (n : ℕ). piece_result (sid_piece l n)) c.u32_at.ensures)
    c.in_err-g.field-0.0
    (c.in_err-g.ensures ∙ ap (λ (n : ℕ). piece_result (sid_piece l n)) c.u32_at-2.ensures) in
    record { value = e; inside = handed_inside l _ e }

pub returns-in_err-s : goal.returns-in_err-s
returns-in_err-s c =
    let l = c.args.d.now in
    let h = sym c.heading.ensures ∙ c.if-not-heading.false in
    let m = c.u16_at-control.ensures.value in
    let up : c.from_residual-in_err-s.result ≡ Err c.in_err-s.field-0.0 = grind arith in
    let e =
    up
    ∙ read_sacl l h
    _ (c.in_ok-o.ensures ∙ ap (λ (n : ℕ). piece_result (sid_piece l n)) c.u32_at.ensures)
    _ (c.in_ok-g.ensures ∙ ap (λ (n : ℕ). piece_result (sid_piece l n)) c.u32_at-2.ensures)
    c.in_err-s.field-0.0
    (c.in_err-s.ensures ∙ ap₂ (λ (x y : ℕ). piece_result (acl_piece false l (has x 0x0010) y)) m c.u32_at-3.ensures) in
    record { value = e; inside = handed_inside l _ e }

pub returns-in_err-a : goal.returns-in_err-a
returns-in_err-a c =
    let l = c.args.d.now in
    let h = sym c.heading.ensures ∙ c.if-not-heading.false in
    let m = c.u16_at-control.ensures.value in
    let up : c.from_residual-in_err-a.result ≡ Err c.in_err-a.field-0.0 = grind arith in
    let e =
    up
    ∙ read_dacl l h
    _ (c.in_ok-o.ensures ∙ ap (λ (n : ℕ). piece_result (sid_piece l n)) c.u32_at.ensures)
    _ (c.in_ok-g.ensures ∙ ap (λ (n : ℕ). piece_result (sid_piece l n)) c.u32_at-2.ensures)
    _ (c.in_ok-s.ensures ∙ ap₂ (λ (x y : ℕ). piece_result (acl_piece false l (has x 0x0010) y)) m c.u32_at-3.ensures)
    c.in_err-a.field-0.0
    (c.in_err-a.ensures ∙ ap₂ (λ (x y : ℕ). piece_result (acl_piece true l (has x 0x0004) y)) m c.u32_at-4.ensures) in
    record { value = e; inside = handed_inside l _ e }

pub returns : goal.returns
returns c =
    let l = c.args.d.now in
    let h = sym c.heading.ensures ∙ c.if-not-heading.false in
    let m = c.u16_at-control.ensures.value in
    let e =
    read_by l h _
    (c.judged.ensures _ _ _ _
    (c.in_ok-o.ensures ∙ ap (λ (n : ℕ). piece_result (sid_piece l n)) c.u32_at.ensures)
    (c.in_ok-g.ensures ∙ ap (λ (n : ℕ). piece_result (sid_piece l n)) c.u32_at-2.ensures)
    (c.in_ok-s.ensures ∙ ap₂ (λ (x y : ℕ). piece_result (acl_piece false l (has x 0x0010) y)) m c.u32_at-3.ensures)
    (c.in_ok-a.ensures ∙ ap₂ (λ (x y : ℕ). piece_result (acl_piece true l (has x 0x0004) y)) m c.u32_at-4.ensures)) in
    record { value = e; inside = handed_inside l _ e }
