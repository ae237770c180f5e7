-- `content` meets its contract, by the entry's type. The condition lies inside the entry, since its SID does.
-- Assumes nothing.
use Prim.Native.Nat.{ℕ, ◌+◌, ◌<◌, ◌≤◌}
use mathlib.Core.List.{List}
use mathlib.Core.Bool.{Bool, true}
use mathlib.Core.Path.{◌≡◌, sym, ap, ◌∙◌}
use native.Mathlib.Omega.{arith}
use borrow.Author.Rules.{rules}
use Rattle.base.specs.Bytes.{byte_at, part}
use Rattle.conditions.specs.Condition.{shape}
use Rattle.conditions.specs.Scanning.{scan_result}
use Rattle.sids.specs.Sid.{sid_end}
use Rattle.lists.specs.Acl.{named, entry_end, content_of}
use Rattle.lists.proofs.TypeLaws.{callback_low, named_low, named_high}
use Rattle.lists.proofs.EntrySteps.{content_plain, content_foreign, content_shallow, content_condition, entry_end_sid, entry_end_fits, some_found, unwrapped}
use Rattle.lists.proofs.acl.content.Goals as goal

-- the entry holds a SID, and this ends inside it
module _ (l : List ℕ) (at e : ℕ) (k : named (byte_at l at) ≡ true) (is : entry_end true l at ≡ e) (lt : at < e) where
  sid : sid_end l (at + 8) ≡ 0 → ⊥
  sid = entry_end_sid l at k (λ q. omega arith)

  inside : (n : ℕ) → n ≡ sid_end l (at + 8) → n ≤ e
  inside n q = let f : sid_end l (at + 8) ≤ entry_end true l at = entry_end_fits l at k (λ z. omega arith) in omega arith

deep_end : (deep : Bool) (l : List ℕ) (at e : ℕ) → deep ≡ true → entry_end deep l at ≡ e → entry_end true l at ≡ e
deep_end deep l at e d q = ap (λ (b : Bool). entry_end b l at) (sym d) ∙ q

pub returns-then-kind-lt2 : goal.returns-then-kind-lt2
returns-then-kind-lt2 c =
    let a = c.args in
    let k = byte_at a.l.now a.at in
    sym (ap scan_result (content_plain a.deep a.l.now a.at a.e (named_low k c.if-kind-lt2.true) (callback_low k c.if-kind-lt2.true)))

pub returns-then-not-is_callback : goal.returns-then-not-is_callback
returns-then-not-is_callback c =
    let a = c.args in
    let k = byte_at a.l.now a.at in
    let t = sym c.is_callback.ensures ∙ c.if-not-is_callback.true in
    sym (ap scan_result (content_foreign a.deep a.l.now a.at a.e (named_high k c.if-kind-lt2.false ∙ t)))

pub returns-then-not-deep : goal.returns-then-not-deep
returns-then-not-deep c =
    let a = c.args in
    let k = byte_at a.l.now a.at in
    let t = sym c.is_callback.ensures ∙ c.if-not-is_callback.false in
    let n = named_high k c.if-kind-lt2.false ∙ t in
    sym (ap scan_result (ap (λ (b : Bool). content_of b a.l.now a.at a.e) (c.if-not-deep.true)
    ∙ content_shallow a.l.now a.at a.e n))

pub unwrap-from-requires : goal.unwrap-from-requires
unwrap-from-requires c =
    let a = c.args in
    let n = named_high (byte_at a.l.now a.at) c.if-kind-lt2.false ∙ sym c.is_callback.ensures ∙ c.if-not-is_callback.false in
    let e = deep_end a.deep a.l.now a.at a.e c.if-not-deep.false c.requires.at_value in
    some_found (sid_end a.l.now (a.at + 8)) _ c.sid_end.ensures.value (sid a.l.now a.at a.e n e c.requires.at_lt_e.0)

pub slice_bounds-judge-count : goal.slice_bounds-judge-count
slice_bounds-judge-count c =
    let a = c.args in
    let n = named_high (byte_at a.l.now a.at) c.if-kind-lt2.false ∙ sym c.is_callback.ensures ∙ c.if-not-is_callback.false in
    let e = deep_end a.deep a.l.now a.at a.e c.if-not-deep.false c.requires.at_value in
    let u = unwrapped (sid_end a.l.now (a.at + 8)) _ _ c.sid_end.ensures.value c.unwrap-from.ensures in
    inside a.l.now a.at a.e n e c.requires.at_lt_e.0 c.unwrap-from.result u

pub slice_bounds-judge-start : goal.slice_bounds-judge-start
slice_bounds-judge-start c =
    let a = c.args in
    let n = named_high (byte_at a.l.now a.at) c.if-kind-lt2.false ∙ sym c.is_callback.ensures ∙ c.if-not-is_callback.false in
    let e = deep_end a.deep a.l.now a.at a.e c.if-not-deep.false c.requires.at_value in
    let u = unwrapped (sid_end a.l.now (a.at + 8)) _ _ c.sid_end.ensures.value c.unwrap-from.ensures in
    let i : c.unwrap-from.result ≤ a.e = inside a.l.now a.at a.e n e c.requires.at_lt_e.0 c.unwrap-from.result u in
    search rules

pub returns : goal.returns
returns c =
    let a = c.args in
    let k = byte_at a.l.now a.at in
    let t = sym c.is_callback.ensures ∙ c.if-not-is_callback.false in
    let n = named_high k c.if-kind-lt2.false ∙ t in
    c.judge.ensures
    ∙ ap scan_result (ap (λ (x : ℕ). shape (part a.l.now x a.e)) (unwrapped (sid_end a.l.now (a.at + 8)) _ _ c.sid_end.ensures.value c.unwrap-from.ensures)
    ∙ sym (ap (λ (b : Bool). content_of b a.l.now a.at a.e) (c.if-not-deep.false)
    ∙ content_condition a.l.now a.at a.e n t))
