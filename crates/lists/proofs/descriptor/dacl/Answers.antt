-- `dacl` meets its contract: the extent that was read lies inside, so its bytes are the part. Assumes nothing.
use mathlib.Core.Path.{sym, ◌∙◌}
use Rattle.lists.proofs.HandedLaws.{bytes_none, bytes_dacl}
use Rattle.lists.proofs.descriptor.dacl.Goals as goal

pub returns-in-Ok : goal.returns-in-Ok
returns-in-Ok c = c.bytes.ensures ∙ bytes_dacl c.args.d.now c.in-Ok.p c.in-Ok.ensures.value

pub returns-in-Err : goal.returns-in-Err
returns-in-Err c = sym (bytes_none c.args.d.now c.in-Err.field-0 (sym c.in-Err.is ∙ c.read.ensures.value)).1.1.1
