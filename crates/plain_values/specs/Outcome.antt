-- What goes on after a value, and stops at a fault: the first of two faults is the one that counts.
use Rattle.std.specs.Prelude.{Result, Ok, Err}
use Rattle.plain_values.specs.declared.fault.Fault.{Fault}

-- what comes next, from the value; where there is a fault in its place, that fault
abbrev pub go_on : {A B : Type 0} → Result A Fault → (A → Result B Fault) → Result B Fault
go_on (Ok x) next = next x
go_on (Err fault) next = Err fault
