-- `bytes_of` meets its contract. The invariant: what is left of the text, put into the buffer from here, is the whole, put from the start.
-- Assumes nothing.
use Rattle.std.proofs.Common.{◌≡◌, ◌-◌, ◌*◌, ◌≤◌, length, drop}
use Rattle.testkit.specs.Text.{filled}
use Rattle.testkit.proofs.text.bytes_of.Given as goal

abbrev pub invariant-loop-n : goal.invariant-loop-n
invariant-loop-n l = record {
  inside : 2 * l.n ≤ length l.text;
  left : l.rest ≡ drop (2 * l.n) l.text;
  whole : filled l.text l.stop (length l.initial.out) l.initial.out 0 0 ≡ filled l.text l.stop (length l.out - l.n) l.out l.n (2 * l.n);
}
