-- `audited` meets its contract: those whom the tables show raise what the crowd raises; each way out is one of the definition.
-- Assumes nothing.
use Prim.Native.Nat.{ℕ}
use mathlib.Core.Path.{refl}
use mathlib.Core.Bool.{true}
use native.Mathlib.Omega.{arith}
use lib.ListN.{length, length-replicate}
use Rattle.records.specs.Crowd.{user_place}
use Rattle.policy.specs.ByLengths.{rules_by_lengths}
use Rattle.access.proofs.EvaluatingSteps.{crowd_shown, crowd_alike, crowd_hits}
use Rattle.access.proofs.AuditingSteps.{sought_made, unlent_shown, short_shown, fits_shown}
use Rattle.access.proofs.auditing.audited.Goals as goal

pub returns-then-not-lent-clause-report : goal.returns-then-not-lent-clause-report
returns-then-not-lent-clause-report c =
    let a = c.args in
    let q = a.q in
    let o = c.of-crowd.ensures in
    let n = length-replicate {A = ℕ} 258 0 in
    let shown = crowd_shown true a.listing.now user_place _ _ _ _ c.requires.few.0 (omega (arith, n)) (omega (arith, n, c.requires.few.1)) refl
    c.chain_crowd.ensures.heads_after c.chain_crowd.ensures.seats_after in
    let alike = crowd_alike _ _ shown a.owner.now q.me.now c.of-crowd.result o.shows o.hits in
    let hits = crowd_hits _ _ shown a.owner.now q.me.now c.of-crowd.result o.shows o.hits in
    unlent_shown q.kind q.mask.0 a.listing.now a.owner.now q.me.now a.sacl.now (rules_by_lengths q.policy.now) a.a _ alike
    c.of-crowd.result.hits hits _ (sought_made q.kind q.mask.0 a.a c.explicit.result c.explicit.ensures) a.lent (length a.out.now) a.out.now _ _
    _ c.if-not-lent.true c.stages_audit.ensures c.flagged-answer.ensures refl refl

pub returns-in_default-clause-report : goal.returns-in_default-clause-report
returns-in_default-clause-report c =
    let a = c.args in
    let q = a.q in
    let o = c.of-crowd.ensures in
    let n = length-replicate {A = ℕ} 258 0 in
    let shown = crowd_shown true a.listing.now user_place _ _ _ _ c.requires.few.0 (omega (arith, n)) (omega (arith, n, c.requires.few.1)) refl
    c.chain_crowd.ensures.heads_after c.chain_crowd.ensures.seats_after in
    let alike = crowd_alike _ _ shown a.owner.now q.me.now c.of-crowd.result o.shows o.hits in
    let hits = crowd_hits _ _ shown a.owner.now q.me.now c.of-crowd.result o.shows o.hits in
    short_shown q.kind q.mask.0 a.listing.now a.owner.now q.me.now a.sacl.now (rules_by_lengths q.policy.now) a.a _ alike
    c.of-crowd.result.hits hits _ (sought_made q.kind q.mask.0 a.a c.explicit.result c.explicit.ensures) a.lent (length a.out.now) a.out.now _ _
    c.if-not-lent.false c.in_default.ensures.value c.report.ensures.written refl refl

pub returns-clause-report : goal.returns-clause-report
returns-clause-report c =
    let a = c.args in
    let q = a.q in
    let o = c.of-crowd.ensures in
    let n = length-replicate {A = ℕ} 258 0 in
    let shown = crowd_shown true a.listing.now user_place _ _ _ _ c.requires.few.0 (omega (arith, n)) (omega (arith, n, c.requires.few.1)) refl
    c.chain_crowd.ensures.heads_after c.chain_crowd.ensures.seats_after in
    let alike = crowd_alike _ _ shown a.owner.now q.me.now c.of-crowd.result o.shows o.hits in
    let hits = crowd_hits _ _ shown a.owner.now q.me.now c.of-crowd.result o.shows o.hits in
    fits_shown q.kind q.mask.0 a.listing.now a.owner.now q.me.now a.sacl.now (rules_by_lengths q.policy.now) a.a _ alike
    c.of-crowd.result.hits hits _ (sought_made q.kind q.mask.0 a.a c.explicit.result c.explicit.ensures) a.lent (length a.out.now) a.out.now _ _
    _ c.in-Some.length c.if-not-lent.false c.in-Some.ensures.value c.report.ensures.written c.stages_audit.ensures c.flagged-answer.ensures refl
