-- What a text of digits gives as an integer, by what it is as a number.
use Rattle.std.specs.Prelude.{ℤ, Result, Ok, Err}
use Rattle.plain_values.specs.declared.numeric.Numeric.{Numeric}
use Rattle.plain_values.specs.declared.numeric.Numeric.TheVariants.{Integer, Float, Other}
use Rattle.plain_values.specs.declared.fault.Fault.{Fault}
use Rattle.plain_values.specs.declared.fault.Fault.TheVariants as fault

-- the integer, where it is one within 64 bits; all else is a fault, that of a float
abbrev pub outcome : Numeric → Result ℤ Fault
outcome (Integer z) = Ok z
outcome Float = Err fault.Float
outcome Other = Err fault.Float
