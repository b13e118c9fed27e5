-- Numeric texts (PHP manual, "Numeric strings").
use Rattle.std.specs.Prelude.{ℕ, ◌^◌, ◌==◌, nat_lt, ℤ, pos, negsuc, Bool, not, ◌&&◌, ◌||◌, if◌then◌else◌, List, [], ◌∷◌, ◌++◌, length, reverse}
use Rattle.std.specs.Char.{is_ascii_digit}
use Rattle.std.specs.List.{list_all, list_any, before_first, after_first}
use Rattle.plain_values.specs.declared.numeric.Numeric.{Numeric}
use Rattle.plain_values.specs.declared.numeric.Numeric.TheVariants.{Integer, Float, Other}
use Rattle.std.specs.Str.Parse.{without_leading_sign, signed_digits_value}

-- a space, tab, line feed, carriage return, vertical tab or form feed
abbrev pub is_blank : ℕ → Bool
is_blank b = b == 32 || b == 9 || b == 10 || b == 13 || b == 11 || b == 12

-- a text without the blanks that it begins with
abbrev pub skip_blanks : List ℕ → List ℕ
skip_blanks [] = []
skip_blanks (b ∷ bs) = if is_blank b then skip_blanks bs else b ∷ bs

-- a text without the blanks at its ends
abbrev pub trimmed : List ℕ → List ℕ
trimmed bs = reverse (skip_blanks (reverse (skip_blanks bs)))

-- whether all bytes are decimal digits, as those of the empty text are
abbrev pub are_digits : List ℕ → Bool
are_digits ds = list_all is_ascii_digit ds

-- one decimal digit or more, and nothing else (LNUM of the manual)
abbrev pub is_numeral : List ℕ → Bool
is_numeral ds = nat_lt 0 (length ds) && are_digits ds

-- whether the byte is `.`
abbrev pub is_dot : ℕ → Bool
is_dot b = b == 46

-- whether the byte is `e` or `E`
abbrev pub is_exponent_mark : ℕ → Bool
is_exponent_mark b = b == 101 || b == 69

-- digits with a dot somewhere or without one (LNUM or DNUM)
abbrev pub is_mantissa : List ℕ → Bool
is_mantissa m = is_numeral (before_first is_dot m ++ after_first is_dot m)

-- a mantissa, and where an `e` or `E` stands behind it a sign or none and digits (EXPONENT_DNUM)
abbrev pub is_unsigned_number : List ℕ → Bool
is_unsigned_number u = is_mantissa (before_first is_exponent_mark u) &&
    (not (list_any is_exponent_mark u) || is_numeral (without_leading_sign (after_first is_exponent_mark u)))

-- the integers of 64 bits with a sign
abbrev pub is_in_range : ℤ → Bool
is_in_range (pos n) = nat_lt n (2 ^ 63)
is_in_range (negsuc n) = nat_lt n (2 ^ 63)

-- an integer of 64 bits is an integer, and any other one a float
abbrev pub integer_in_range : ℤ → Numeric
integer_in_range z = if is_in_range z then Integer z else Float

-- digits behind a sign or none are an integer, or a float where it is out of range; else a number with a fraction or an exponent is a float
abbrev pub numeric_body : List ℕ → Numeric
numeric_body body = if is_numeral (without_leading_sign body) then integer_in_range (signed_digits_value 10 body)
    else if is_unsigned_number (without_leading_sign body) then Float else Other

-- blanks may stand on both sides
abbrev pub numeric : List ℕ → Numeric
numeric bs = numeric_body (trimmed bs)
