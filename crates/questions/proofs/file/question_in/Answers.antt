-- `question_in` meets its contract: where a part does not stand there is no question, and the parts that stand are those of the definition.
-- Assumes nothing.
use Rattle.base.specs.Sevens.{number}
use Rattle.base.proofs.SevensSteps.{num_none, num_some}
use Rattle.questions.proofs.FileSteps.{no_kind, no_mask, no_token, no_self, no_descriptor, no_policy, more_follows, whole_question}
use Rattle.questions.proofs.file.question_in.Goals as goal

pub returns-in_err-kind : goal.returns-in_err-kind
returns-in_err-kind c =
    let s = c.args.s.now in
    rw c.from_residual.ensures (no_kind s (num_none (number 32 s 0) c.in_err-kind.ensures.value))

pub returns-in_err-mask : goal.returns-in_err-mask
returns-in_err-mask c =
    let s = c.args.s.now in
    let k = num_some (number 32 s 0) c.in_ok-kind.kind c.in_ok-kind.ensures.value in
    rw c.from_residual-in_err-mask.ensures
    (no_mask s _ _ k (num_none (number 32 s c.in_ok-kind.kind.next) c.in_err-mask.ensures.value))

pub returns-in_err-token : goal.returns-in_err-token
returns-in_err-token c =
    let s = c.args.s.now in
    let k = num_some (number 32 s 0) c.in_ok-kind.kind c.in_ok-kind.ensures.value in
    let m = num_some (number 32 s c.in_ok-kind.kind.next) c.in_ok-mask.mask c.in_ok-mask.ensures.value in
    rw c.from_residual-in_err-token.ensures (no_token s _ _ k _ _ m c.in_err-token.ensures.value)

pub returns-in_err-me : goal.returns-in_err-me
returns-in_err-me c =
    let s = c.args.s.now in
    let k = num_some (number 32 s 0) c.in_ok-kind.kind c.in_ok-kind.ensures.value in
    let m = num_some (number 32 s c.in_ok-kind.kind.next) c.in_ok-mask.mask c.in_ok-mask.ensures.value in
    rw c.from_residual-in_err-me.ensures (no_self s _ _ k _ _ m _ _ c.in_ok-token.ensures.value c.in_err-me.ensures.value)

pub returns-in_err-descriptor : goal.returns-in_err-descriptor
returns-in_err-descriptor c =
    let s = c.args.s.now in
    let k = num_some (number 32 s 0) c.in_ok-kind.kind c.in_ok-kind.ensures.value in
    let m = num_some (number 32 s c.in_ok-kind.kind.next) c.in_ok-mask.mask c.in_ok-mask.ensures.value in
    rw c.from_residual-in_err-descriptor.ensures (no_descriptor s _ _ k _ _ m _ _ c.in_ok-token.ensures.value _ _ c.in_ok-me.ensures.value c.in_err-descriptor.ensures.value)

pub returns-in_err-policy : goal.returns-in_err-policy
returns-in_err-policy c =
    let s = c.args.s.now in
    let k = num_some (number 32 s 0) c.in_ok-kind.kind c.in_ok-kind.ensures.value in
    let m = num_some (number 32 s c.in_ok-kind.kind.next) c.in_ok-mask.mask c.in_ok-mask.ensures.value in
    rw c.from_residual-in_err-policy.ensures (no_policy s _ _ k _ _ m _ _ c.in_ok-token.ensures.value _ _ c.in_ok-me.ensures.value _ _ c.in_ok-descriptor.ensures.value c.in_err-policy.ensures.value)

pub returns-then-policy-s : goal.returns-then-policy-s
returns-then-policy-s c =
    let s = c.args.s.now in
    let k = num_some (number 32 s 0) c.in_ok-kind.kind c.in_ok-kind.ensures.value in
    let m = num_some (number 32 s c.in_ok-kind.kind.next) c.in_ok-mask.mask c.in_ok-mask.ensures.value in
    more_follows s _ _ k _ _ m _ _ c.in_ok-token.ensures.value _ _ c.in_ok-me.ensures.value _ _ c.in_ok-descriptor.ensures.value _ _ c.in_ok-policy.ensures.value c.if-policy-s.true

pub returns : goal.returns
returns c =
    let s = c.args.s.now in
    let k = num_some (number 32 s 0) c.in_ok-kind.kind c.in_ok-kind.ensures.value in
    let m = num_some (number 32 s c.in_ok-kind.kind.next) c.in_ok-mask.mask c.in_ok-mask.ensures.value in
    whole_question s _ _ k _ _ m _ _ c.in_ok-token.ensures.value _ _ c.in_ok-me.ensures.value _ _ c.in_ok-descriptor.ensures.value _ _ c.in_ok-policy.ensures.value c.if-policy-s.false
