-- What a policy is: sound, misshapen or unread; and what the code answers then.
use Rattle.std.specs.Prelude.{Result, Ok, Err}
use Rattle.policy.specs.declared.shape.Refusal.{Refusal}
use Rattle.policy.specs.declared.shape.Refusal.TheVariants as fault

pub data Standing : Type 0 where
  Sound : Standing
  Misshapen : Standing
  Unread : Standing

abbrev pub judged : Standing → Result Unit Refusal
judged Standing.Sound = Ok tt
judged Standing.Misshapen = Err fault.Misshapen
judged Standing.Unread = Err fault.Unread
