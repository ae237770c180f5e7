-- `bytes_of` meets its contract: each way out of a turn is a line of `filled`.
-- Assumes nothing.
use Rattle.std.proofs.Common.{◌≡◌, ℕ, ◌+◌, ◌-◌, ◌*◌, ◌≤◌, List, length, drop, set, get_or, sym, ap, ◌∙◌, arith, length-set}
use Rattle.std.proofs.lemmas.List.{set-get_or, drop-drop}
use Rattle.testkit.specs.Text.{Filling, counted, filled}
use Rattle.testkit.proofs.TextLaws.{whole_rest, front, under_none, under_some, fill_start, fill_full, fill_end, fill_done, fill_short, fill_bad, fill_more}
use Rattle.testkit.proofs.text.bytes_of.Goals as goal

-- what a filling answers, and the bytes that it leaves where the one at a place is written back
answer_of : {f g : Filling} → f ≡ g → counted g.answer ≡ counted f.answer
answer_of e = sym (ap (λ (f : Filling). counted f.answer) e)

bytes_in : {f g : Filling} (n : ℕ) → f ≡ g → set g.bytes n (get_or g.bytes n 0) ≡ f.bytes
bytes_in {f} {g} n e = set-get_or g.bytes n 0 ∙ sym (ap (λ (f : Filling). f.bytes) e)

pub returns-in-len1-up-clause-value : goal.returns-in-len1-up-clause-value
returns-in-len1-up-clause-value c =
    let l = c.loop-n in
    let t = c.args.text.now in
    let room = length l.out - l.n in
    let f = front t l.rest.now (2 * l.n) l.invariant.left in
    answer_of (l.invariant.whole ∙ fill_done t l.out c.args.stop room (room - 1) l.n (2 * l.n) (omega arith) (omega arith) (f.0 ∙ c.if-end-stop.true))

pub returns-in-len1-up-clause-out_after : goal.returns-in-len1-up-clause-out_after
returns-in-len1-up-clause-out_after c =
    let l = c.loop-n in
    let t = c.args.text.now in
    let room = length l.out - l.n in
    let f = front t l.rest.now (2 * l.n) l.invariant.left in
    bytes_in l.n (l.invariant.whole ∙ fill_done t l.out c.args.stop room (room - 1) l.n (2 * l.n) (omega arith) (omega arith) (f.0 ∙ c.if-end-stop.true))

pub returns-in_default-clause-value : goal.returns-in_default-clause-value
returns-in_default-clause-value c =
    let l = c.loop-n in
    let t = c.args.text.now in
    let room = length l.out - l.n in
    let f = front t l.rest.now (2 * l.n) l.invariant.left in
    answer_of (l.invariant.whole ∙ fill_end t l.out c.args.stop room (room - 1) l.n (2 * l.n) (omega arith) (omega arith))

pub returns-in_default-clause-out_after : goal.returns-in_default-clause-out_after
returns-in_default-clause-out_after c =
    let l = c.loop-n in
    let t = c.args.text.now in
    let room = length l.out - l.n in
    let f = front t l.rest.now (2 * l.n) l.invariant.left in
    bytes_in l.n (l.invariant.whole ∙ fill_end t l.out c.args.stop room (room - 1) l.n (2 * l.n) (omega arith) (omega arith))

pub returns-in_default-2-clause-value : goal.returns-in_default-2-clause-value
returns-in_default-2-clause-value c =
    let l = c.loop-n in
    let t = c.args.text.now in
    let room = length l.out - l.n in
    let f = front t l.rest.now (2 * l.n) l.invariant.left in
    answer_of (
    l.invariant.whole
    ∙ fill_short t l.out c.args.stop room (room - 1) l.n (2 * l.n) (omega arith) (omega arith) (λ e. c.if-end-stop.false (sym f.0 ∙ e)) (omega arith)
    )

pub returns-in_default-2-clause-out_after : goal.returns-in_default-2-clause-out_after
returns-in_default-2-clause-out_after c =
    let l = c.loop-n in
    let t = c.args.text.now in
    let room = length l.out - l.n in
    let f = front t l.rest.now (2 * l.n) l.invariant.left in
    bytes_in l.n (
    l.invariant.whole
    ∙ fill_short t l.out c.args.stop room (room - 1) l.n (2 * l.n) (omega arith) (omega arith) (λ e. c.if-end-stop.false (sym f.0 ∙ e)) (omega arith)
    )

pub returns-in_err-b-in-len2-up-clause-value : goal.returns-in_err-b-in-len2-up-clause-value
returns-in_err-b-in-len2-up-clause-value c =
    let l = c.loop-n in
    let t = c.args.text.now in
    let room = length l.out - l.n in
    let f = front t l.rest.now (2 * l.n) l.invariant.left in
    let none = under_none 256 _ c.in_err-b-in-len2-up.ensures in
    let e = answer_of (
    l.invariant.whole
    ∙ fill_bad t l.out c.args.stop room (room - 1) l.n (2 * l.n) (omega arith) (omega arith) (λ e. c.if-end-stop.false (sym f.0 ∙ e))
    (omega arith)
    (rw (f.0, f.1) (omega (arith, none)))
    ) in
    cc

pub returns-in_err-b-in-len2-up-clause-out_after : goal.returns-in_err-b-in-len2-up-clause-out_after
returns-in_err-b-in-len2-up-clause-out_after c =
    let l = c.loop-n in
    let t = c.args.text.now in
    let room = length l.out - l.n in
    let f = front t l.rest.now (2 * l.n) l.invariant.left in
    let none = under_none 256 _ c.in_err-b-in-len2-up.ensures in
    bytes_in l.n (
    l.invariant.whole
    ∙ fill_bad t l.out c.args.stop room (room - 1) l.n (2 * l.n) (omega arith) (omega arith) (λ e. c.if-end-stop.false (sym f.0 ∙ e))
    (omega arith)
    (rw (f.0, f.1) (omega (arith, none)))
    )

pub loop-n-preserved : goal.loop-n-preserved
loop-n-preserved c =
    let l = c.loop-n in
    let t = c.args.text.now in
    let n = l.n in
    let v = c.in_ok-b-in-len2-up.field-0 in
    let room = length l.out - n in
    let f = front t l.rest.now (2 * n) l.invariant.left in
    let some = under_some 256 _ v c.in_ok-b-in-len2-up.ensures in
    let less = length (set l.out n v) - (n + 1) in
    let two : 2 * n + 2 ≡ 2 * (n + 1) = omega arith in
    record {
      inside = omega arith;
      left = whole_rest 2 l.rest.now ∙ (rw l.invariant.left (rw (← two) (drop-drop 2 (2 * n) t)));
      whole =
          rw (← two) (
          l.invariant.whole
          ∙ fill_more t l.out c.args.stop room less n (2 * n) v (rw (f.0, f.1) some.0)
          (simp length-set (omega arith))
          (omega arith) (λ e. c.if-end-stop.false (sym f.0 ∙ e)) (omega arith) (omega (arith, some.0, some.1))
          );
    }

pub returns-clause-value : goal.returns-clause-value
returns-clause-value c =
    let l = c.loop-n in
    let room = length l.out - l.n in
    answer_of (l.invariant.whole ∙ fill_full c.args.text.now l.out c.args.stop room (room - 1) l.n (2 * l.n) (omega arith))

pub returns-clause-out_after : goal.returns-clause-out_after
returns-clause-out_after c =
    let l = c.loop-n in
    let room = length l.out - l.n in
    sym (ap (λ (f : Filling). f.bytes)
    (l.invariant.whole ∙ fill_full c.args.text.now l.out c.args.stop room (room - 1) l.n (2 * l.n) (omega arith)))
