-- The integer that a value stands for (PHP manual, intval).
use Rattle.std.specs.Prelude.{ℕ, ℤ, pos, Bool, true, false, ◌==◌, ◌||◌, ◌&&◌, nat_lt, if◌then◌else◌, List, [], ◌∷◌, ◌++◌, length, drop, take_while, Result, Ok, Err}
use Rattle.std.specs.Char.{is_ascii_digit}
use Rattle.std.specs.Str.Parse.{without_leading_sign, signed_digits_value}
use Rattle.plain_values.specs.Plain.{Plain, null, flag, int, text, array}
use Rattle.plain_values.specs.Numeric.{skip_blanks, is_dot, is_exponent_mark}
use Rattle.plain_values.specs.Arithmetic.{in_64_bits, integer}
use Rattle.plain_values.specs.declared.fault.Fault.{Fault}
use Rattle.plain_values.specs.declared.fault.Fault.TheVariants as fault

-- the longest run of digits that a text begins with
abbrev pub leading_digits : List ℕ → List ℕ
leading_digits t = take_while is_ascii_digit t

-- what stands behind the longest run of digits that a text begins with
abbrev pub behind_digits : List ℕ → List ℕ
behind_digits t = drop (length (leading_digits t)) t

-- a sign that a text begins with, or nothing
abbrev pub leading_sign : List ℕ → List ℕ
leading_sign [] = []
leading_sign (b ∷ bs) = if b == 43 || b == 45 then b ∷ [] else []

-- a text without the dot that it begins with, and where it begins with none, nothing
abbrev pub behind_dot : List ℕ → List ℕ
behind_dot [] = []
behind_dot (b ∷ bs) = if is_dot b then bs else []

-- what stands behind a dot and digits, or behind neither
abbrev pub behind_fraction : List ℕ → List ℕ
behind_fraction [] = []
behind_fraction (b ∷ bs) = if is_dot b then behind_digits bs else b ∷ bs

-- whether the first byte is a decimal digit; the empty text has none
abbrev pub begins_with_digit : List ℕ → Bool
begins_with_digit [] = false
begins_with_digit (b ∷ bs) = is_ascii_digit b

-- an `e` or `E`, a sign or none, and a digit
abbrev pub begins_exponent : List ℕ → Bool
begins_exponent [] = false
begins_exponent (b ∷ bs) = is_exponent_mark b && begins_with_digit (without_leading_sign bs)

-- behind the sign: digits, a dot and digits or neither, at least one digit in all, and an exponent
abbrev pub is_exponent_form : List ℕ → Bool
is_exponent_form unsigned =
    nat_lt 0 (length (leading_digits unsigned ++ leading_digits (behind_dot (behind_digits unsigned))))
    && begins_exponent (behind_fraction (behind_digits unsigned))

-- the sign and the digits in front, as a number; 0 where there is no digit
abbrev pub number_in_front : List ℕ → ℤ
number_in_front body = signed_digits_value 10 (leading_sign body ++ leading_digits (without_leading_sign body))

-- blanks in front are passed over; a text in exponent form would be a float
abbrev pub text_integer : List ℕ → Result ℤ Fault
text_integer t = let body = skip_blanks t in if is_exponent_form (without_leading_sign body) then Err fault.Float
    else in_64_bits (number_in_front body)

-- `intval(v)`: an integer itself, null 0, false 0 and true 1, the number in front of a text
abbrev pub integer_of : Plain → Result Plain Fault
integer_of null = Ok (int (pos 0))
integer_of (flag false) = Ok (int (pos 0))
integer_of (flag true) = Ok (int (pos 1))
integer_of (int z) = Ok (int z)
integer_of (text t) = integer (text_integer t)
integer_of (array ps) = Err fault.WrongType
