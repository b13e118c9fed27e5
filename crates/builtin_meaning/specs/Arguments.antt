-- What the functions take their arguments as. An argument that does not serve is a fault, of the first one from the left.
use Rattle.std.specs.Prelude.{ℕ, ℤ, List, [], ◌∷◌, Option, Some, None, Result, Ok, Err}
use Rattle.plain_values.specs.Plain.{Plain, Pairs, null, flag, int, text, array, empty, pair}
use Rattle.plain_values.specs.Text.{text_of}
use Rattle.plain_values.specs.Arithmetic.{number_of}
use Rattle.plain_values.specs.Outcome.{go_on}
use Rattle.plain_values.specs.declared.fault.Fault.{Fault}
use Rattle.plain_values.specs.declared.fault.Fault.TheVariants.{WrongType}

-- where a text is asked for, a value stands for its text form, and an array for none
abbrev pub as_text : Plain → Result (List ℕ) Fault
as_text null = Ok (text_of null)
as_text (flag b) = Ok (text_of (flag b))
as_text (int z) = Ok (text_of (int z))
as_text (text t) = Ok t
as_text (array ps) = Err WrongType

-- where an array is asked for, nothing else serves
abbrev pub as_array : Plain → Result Pairs Fault
as_array null = Err WrongType
as_array (flag b) = Err WrongType
as_array (int z) = Err WrongType
as_array (text t) = Err WrongType
as_array (array ps) = Ok ps

-- where a number may be left out, null leaves it out too
abbrev pub as_optional_number : Plain → Result (Option ℤ) Fault
as_optional_number null = Ok None
as_optional_number (flag b) = go_on (number_of (flag b)) (λ z. Ok (Some z))
as_optional_number (int z) = Ok (Some z)
as_optional_number (text t) = go_on (number_of (text t)) (λ z. Ok (Some z))
as_optional_number (array ps) = Err WrongType
