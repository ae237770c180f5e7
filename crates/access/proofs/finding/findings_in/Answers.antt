-- `findings_in` meets its contract: each way out is a number of the definition, and what is found over the listing is what the rules say.
-- Assumes nothing.
use mathlib.Core.Path.{sym, ap, ◌∙◌}
use mathlib.Core.Bool.{not}
use native.Mathlib.Omega.{arith}
use lib.ListN.{length}
use Rattle.std.proofs.lemmas.Result.{err_from_is_err_and}
use Rattle.base.specs.Bytes.{part}
use Rattle.base.proofs.BytesLaws.{bytes_of_lt, part_front}
use Rattle.lists.specs.Descriptor.{parts_of}
use Rattle.lists.specs.declared.descriptor.Descriptor.{Descriptor}
use Rattle.access.specs.Refusals.{of_descriptor, of_policy}
use Rattle.access.specs.Findings.{stopped}
use Rattle.access.proofs.FindingsLaws.{number_some, findings_self, findings_descriptor, findings_policy, findings_found}
use Rattle.access.proofs.TokenSteps.{descriptor_refused, descriptor_read, policy_refused, policy_passed, held, token_refused, found_whole, findings_made, held_limits}
use Rattle.access.proofs.finding.findings_in.Goals as goal

pub returns-in_err-l-clause-value : goal.returns-in_err-l-clause-value
returns-in_err-l-clause-value c =
    let q = c.args.q in
    let p = err_from_is_err_and c.from_residual.result c.from_residual.ensures.1 in
    rw (p.1, p.2)
    (sym (token_refused q.kind q.token.now q.me.now q.descriptor.now q.policy.now _ c.in_err-l.ensures.number (number_some c.in_err-l.field-0.0)))

pub returns-then-not-self_fits-clause-value : goal.returns-then-not-self_fits-clause-value
returns-then-not-self_fits-clause-value c =
    let q = c.args.q in
    let t = held q.token.now c.in_ok-l.l _ c.in_ok-l.ensures.listing c.in_ok-l.ensures.number in
    sym (findings_self q.kind q.token.now q.me.now q.descriptor.now q.policy.now t.token t.end t.read t.kept
    (sym c.self_fits.ensures ∙ c.if-not-self_fits.true))

pub returns-in_err-parts-clause-value : goal.returns-in_err-parts-clause-value
returns-in_err-parts-clause-value c =
    let q = c.args.q in
    let t = held q.token.now c.in_ok-l.l _ c.in_ok-l.ensures.listing c.in_ok-l.ensures.number in
    let n = descriptor_refused (parts_of q.descriptor.now) _ c.in_err-parts.ensures.value in
    let p = err_from_is_err_and c.from_residual-in_err-parts.result c.from_residual-in_err-parts.ensures.1 in
    rw (p.1, p.2)
    (ap stopped n
    ∙ sym (findings_descriptor q.kind q.token.now q.me.now q.descriptor.now q.policy.now t.token t.end t.read t.kept
    (sym c.self_fits.ensures ∙ c.if-not-self_fits.false) (λ z. number_some (of_descriptor c.in_err-parts.field-0.0) (n ∙ z))))

pub returns-in_err-judge_policy-clause-value : goal.returns-in_err-judge_policy-clause-value
returns-in_err-judge_policy-clause-value c =
    let q = c.args.q in
    let t = held q.token.now c.in_ok-l.l _ c.in_ok-l.ensures.listing c.in_ok-l.ensures.number in
    let n = policy_refused _ _ c.in_err-judge_policy.ensures in
    let p = err_from_is_err_and c.from_residual-in_err-judge_policy.result c.from_residual-in_err-judge_policy.ensures.1 in
    rw (p.1, p.2)
    (ap stopped n
    ∙ sym (findings_policy q.kind q.token.now q.me.now q.descriptor.now q.policy.now t.token t.end t.read t.kept
    (sym c.self_fits.ensures ∙ c.if-not-self_fits.false) (descriptor_read (parts_of q.descriptor.now) _ c.in_ok-parts.ensures.value).whole
    (λ z. number_some (of_policy c.in_err-judge_policy.field-0.0) (n ∙ z))))

pub found-requires : goal.found-requires
found-requires c =
    let q = c.args.q in
    let t = held q.token.now c.in_ok-l.l _ c.in_ok-l.ensures.listing c.in_ok-l.ensures.number in
    let h = held_limits _ c.in_ok-l.l _ t (bytes_of_lt q.token.now (λ i l. omega (arith, c.list_record.ensures.bytes i))) _
    (part_front c.list_record.new.room c.in_ok-l.l.length) in
    (omega (arith, h.0), (omega arith, (omega (arith, h.1.0), omega (arith, h.1.1))))

pub returns-clause-value : goal.returns-clause-value
returns-clause-value c =
    let q = c.args.q in
    let d = q.descriptor.now in
    let o = c.in_ok-l.ensures.listing in
    let t = held q.token.now c.in_ok-l.l _ o c.in_ok-l.ensures.number in
    let read = descriptor_read (parts_of d) c.in_ok-parts.parts c.in_ok-parts.ensures.value in
    let whole = read.whole in
    let sound = policy_passed _ c.in_ok-judge_policy.ensures in
    let owner = c.cut.ensures ∙ ap (λ (x : Descriptor). part d x.owner.from x.owner.to) read.is in
    let list = c.cut-2.ensures ∙ ap (λ (x : Descriptor). part d x.dacl.from x.dacl.to) read.is in
    let present = ap (λ (x : Descriptor). not x.null) read.is in
    let found =
    found_whole q.kind q.token.now c.in_ok-l.l _ t (bytes_of_lt q.token.now (λ i l. omega (arith, c.list_record.ensures.bytes i))) _ _ _ q.me.now d
    q.policy.now _ c.found.result (part_front c.list_record.new.room c.in_ok-l.l.length) owner list present whole sound c.found.ensures
    in
    findings_made _ t.token d c.in_ok-parts.parts found (o.long ∙ sym (ap length o.bytes) ∙ ap length t.bytes) read
    ∙ sym (findings_found q.kind q.token.now q.me.now d q.policy.now t.token t.end t.read t.kept
    (sym c.self_fits.ensures ∙ c.if-not-self_fits.false) whole sound)
