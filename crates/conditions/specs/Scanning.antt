-- What a scan finds, in an expression or in a list: something misshapen, something that is not read, or neither; and what the code answers
-- then.
use Rattle.std.specs.Prelude.{Bool, true, false, Result, Ok, Err}
use Rattle.conditions.specs.declared.fault.Fault.{Fault}
use Rattle.conditions.specs.declared.fault.Fault.TheVariants as fault

pub data Scan : Type 0 where
  Broken : Scan
  Foreign : Scan
  Plain : Scan

-- what an expression comes to: a fault, or its truth
pub data Outcome : Type 0 where
  Broken : Outcome
  Foreign : Outcome
  Says : Bool → Outcome

abbrev pub is_broken : Scan → Bool
is_broken Scan.Broken = true
is_broken Scan.Foreign = false
is_broken Scan.Plain = false

abbrev pub is_foreign : Scan → Bool
is_foreign Scan.Broken = false
is_foreign Scan.Foreign = true
is_foreign Scan.Plain = false

-- ---- what the code answers

abbrev pub scan_result : Scan → Result Unit Fault
scan_result Scan.Broken = Err fault.Broken
scan_result Scan.Foreign = Err fault.Foreign
scan_result Scan.Plain = Ok tt

abbrev pub weighed : Outcome → Result Bool Fault
weighed Outcome.Broken = Err fault.Broken
weighed Outcome.Foreign = Err fault.Foreign
weighed (Outcome.Says b) = Ok b
