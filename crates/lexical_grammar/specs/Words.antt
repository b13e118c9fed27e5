-- Names, variables and numbers (PHP manual, "Variables: Basics", "Types: Integers", "Types: Floating point numbers").
use Rattle.std.specs.Prelude.{ℕ, ◌+◌, pos, Bool, ◌&&◌, ◌||◌, ◌==◌, nat_lt, if◌then◌else◌, List, take, drop, length, Option, None, codes}
use Rattle.php_syntax.specs.Tokens.{name, variable, integer}
use Rattle.lexical_grammar.specs.Characters.{is_digit, is_name_byte, begins, head_is, name_length, digits_length, value_of, largest}
use Rattle.lexical_grammar.specs.Steps.{Step, gives, faults}
use Rattle.lexical_grammar.specs.declared.fault.LexicalFault.TheVariants.{BadByte, Float, BigInt}

-- a name; keywords are names
unfoldable pub name_step : List ℕ → Option Step
name_step bytes =
    let n = name_length bytes
    in if n == 0 then None else gives (name (take n bytes)) n

-- `$` and a name
unfoldable pub variable_step : List ℕ → Option Step
variable_step bytes =
    let n = name_length (drop 1 bytes)
    in if begins (codes "$") bytes && nat_lt 0 n then gives (variable (take n (drop 1 bytes))) (1 + n) else None

-- `e` or `E`, a sign or none, and a digit
abbrev pub begins_exponent : List ℕ → Bool
begins_exponent bytes = head_is (λ b. b == 101 || b == 69) bytes && (head_is is_digit (drop 1 bytes)
    || (head_is (λ b. b == 43 || b == 45) (drop 1 bytes) && head_is is_digit (drop 2 bytes)))

-- what makes a float of the digits before it
abbrev pub goes_on_as_float : List ℕ → Bool
goes_on_as_float bytes = begins (codes ".") bytes || begins_exponent bytes

-- a 0 with a digit behind it
abbrev pub has_leading_zero : List ℕ → Bool
has_leading_zero digits = begins (codes "0") digits && nat_lt 1 (length digits)

-- a run of digits: a float, an octal literal, one that is too large, one with a letter behind it, or an integer
abbrev pub digits_step : List ℕ → List ℕ → Option Step
digits_step digits rest =
    if goes_on_as_float rest then faults Float 0
    else if has_leading_zero digits then faults BadByte 1
    else if nat_lt largest (value_of digits) then faults BigInt 0
    else if head_is is_name_byte rest then faults BadByte (length digits)
    else gives (integer (pos (value_of digits))) (length digits)

-- an integer literal, or a float, which is refused
unfoldable pub number_step : List ℕ → Option Step
number_step bytes =
    let n = digits_length bytes
    in if nat_lt 0 n then digits_step (take n bytes) (drop n bytes)
    else if begins (codes ".") bytes && head_is is_digit (drop 1 bytes) then faults Float 0
    else None
