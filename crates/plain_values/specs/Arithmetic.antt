-- Arithmetic on values (PHP manual, "Arithmetic operators", "Incrementing/decrementing operators", "Numeric strings", intdiv).
use Rattle.std.specs.Prelude.{ℤ, pos, ◌+ℤ◌, ◌-ℤ◌, ◌*ℤ◌, neg_ℤ, int_div, int_rem, true, false, if◌then◌else◌, Result, Ok, Err}
use Rattle.std.specs.Ordering.{int_eq}
use Rattle.plain_values.specs.Plain.{Plain, null, flag, int, text, array}
use Rattle.plain_values.specs.Numeric.{numeric, is_in_range}
use Rattle.plain_values.specs.Outcome.{go_on}
use Rattle.plain_values.specs.declared.numeric.Numeric.{Numeric}
use Rattle.plain_values.specs.declared.numeric.Numeric.TheVariants.{Integer, Float, Other}
use Rattle.plain_values.specs.declared.fault.Fault.{Fault}
use Rattle.plain_values.specs.declared.fault.Fault.TheVariants as fault

-- an integer text as a number; a float text and a text that is not numeric are faults
abbrev pub number_in : Numeric → Result ℤ Fault
number_in (Integer z) = Ok z
number_in Float = Err fault.Float
number_in Other = Err fault.NotNumber

-- an operand as a number: an integer itself, null 0, false 0 and true 1, an integer text its value; floats, other texts and arrays are left
-- out
abbrev pub number_of : Plain → Result ℤ Fault
number_of null = Ok (pos 0)
number_of (flag false) = Ok (pos 0)
number_of (flag true) = Ok (pos 1)
number_of (int z) = Ok z
number_of (text t) = number_in (numeric t)
number_of (array ps) = Err fault.WrongType

-- a number that is no integer of 64 bits would be a float
abbrev pub in_64_bits : ℤ → Result ℤ Fault
in_64_bits z = if is_in_range z then Ok z else Err fault.Float

-- an integer as a value; a fault stays
abbrev pub integer : Result ℤ Fault → Result Plain Fault
integer r = go_on r (λ z. Ok (int z))

-- both operands as numbers, the left one first
abbrev pub of_numbers : (ℤ → ℤ → Result ℤ Fault) → Plain → Plain → Result Plain Fault
of_numbers operation a b = go_on (number_of a) (λ x. go_on (number_of b) (λ y. integer (operation x y)))

-- `a + b`
abbrev pub sum_of : Plain → Plain → Result Plain Fault
sum_of a b = of_numbers (λ x y. in_64_bits (x +ℤ y)) a b

-- `a - b`
abbrev pub difference_of : Plain → Plain → Result Plain Fault
difference_of a b = of_numbers (λ x y. in_64_bits (x -ℤ y)) a b

-- `a * b`
abbrev pub product_of : Plain → Plain → Result Plain Fault
product_of a b = of_numbers (λ x y. in_64_bits (x *ℤ y)) a b

-- a result where the divisor is not 0
abbrev pub unless_zero : ℤ → Result ℤ Fault → Result ℤ Fault
unless_zero divisor result = if int_eq divisor (pos 0) then Err fault.ZeroDivisor else result

-- `a % b`: the remainder has the sign of the dividend
abbrev pub remainder_of : Plain → Plain → Result Plain Fault
remainder_of a b = of_numbers (λ x y. unless_zero y (Ok (int_rem x y))) a b

-- `intdiv(a, b)`: the quotient is cut towards zero
abbrev pub quotient_of : Plain → Plain → Result Plain Fault
quotient_of a b = of_numbers (λ x y. unless_zero y (in_64_bits (int_div x y))) a b

-- `-a`
abbrev pub negation_of : Plain → Result Plain Fault
negation_of a = go_on (number_of a) (λ x. integer (in_64_bits (neg_ℤ x)))

-- `++`, of an integer alone
abbrev pub increment_of : Plain → Result Plain Fault
increment_of null = Err fault.WrongType
increment_of (flag b) = Err fault.WrongType
increment_of (int z) = integer (in_64_bits (z +ℤ pos 1))
increment_of (text t) = Err fault.WrongType
increment_of (array ps) = Err fault.WrongType

-- `--`, of an integer alone
abbrev pub decrement_of : Plain → Result Plain Fault
decrement_of null = Err fault.WrongType
decrement_of (flag b) = Err fault.WrongType
decrement_of (int z) = integer (in_64_bits (z -ℤ pos 1))
decrement_of (text t) = Err fault.WrongType
decrement_of (array ps) = Err fault.WrongType
