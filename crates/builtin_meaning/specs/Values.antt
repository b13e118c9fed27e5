-- What the functions give (PHP manual, each function under its name): a value, or the fault that a run ends with.
use Rattle.std.specs.Prelude.{ℕ, zero, suc, ◌+◌, ℤ, pos, negsuc, Bool, true, false, if◌then◌else◌, List, [], ◌∷◌, length, map, Option, Some, None, Result, Ok, Err}
use Rattle.std.specs.Str.{is_utf8}
use Rattle.string_functions.specs.Html.{html_of}
use Rattle.string_functions.specs.Pieces.{pieces_of, join_of, replaced_text}
use Rattle.string_functions.specs.Cut.{part_of}
use Rattle.string_functions.specs.Case.{lower_of, upper_of, first_upper_of}
use Rattle.string_functions.specs.Trim.{trim_of}
use Rattle.string_functions.specs.Breaks.{breaks_of}
use Rattle.string_functions.specs.Url.{url_of, raw_url_of}
use Rattle.string_functions.specs.Slashes.{slashes_of}
use Rattle.string_functions.specs.Copies.{copies_of}
use Rattle.plain_values.specs.Plain.{Plain, Pairs, int_key, null, flag, int, text, array, empty, pair}
use Rattle.plain_values.specs.Text.{text_of}
use Rattle.plain_values.specs.Members.{within_length}
use Rattle.plain_values.specs.Arithmetic.{number_of, quotient_of, in_64_bits, integer}
use Rattle.plain_values.specs.Intval.{integer_of}
use Rattle.plain_values.specs.Walks.{count_of, is_array, is_text}
use Rattle.plain_values.specs.Outcome.{go_on}
use Rattle.plain_values.specs.declared.fault.Fault.{Fault}
use Rattle.plain_values.specs.declared.fault.Fault.TheVariants.{WrongType, NotUtf8}
use Rattle.builtin_meaning.specs.declared.builtin.Builtin.{Builtin}
use Rattle.builtin_meaning.specs.declared.builtin.Builtin.TheVariants.{Htmlspecialchars, StrReplace, Substr, Strtolower, Strtoupper, Ucfirst, Trim, Ltrim, Rtrim, Nl2br, Urlencode, Rawurlencode, Addslashes, Explode, Implode, StrRepeat, Strlen, Count, Intval, Intdiv, Strval, IsArray, IsString}
use Rattle.builtin_meaning.specs.Arguments.{as_text, as_array, as_optional_number}

-- a function of one text, whose result is a text that is not too long
abbrev pub of_text : (List ℕ → List ℕ) → Plain → Result Plain Fault
of_text function a = go_on (as_text a) (λ t. within_length (function t))

-- `htmlspecialchars(s)`, of UTF-8 alone
abbrev pub escaped : Plain → Result Plain Fault
escaped a = go_on (as_text a) (λ t. if is_utf8 t then within_length (html_of t) else Err NotUtf8)

-- `str_replace(search, with, s)`
abbrev pub replaced : Plain → Plain → Plain → Result Plain Fault
replaced search with s = go_on (as_text search) (λ old. go_on (as_text with)
    (λ new. go_on (as_text s) (λ t. within_length (replaced_text old new t))))

-- `substr(s, start, length)`, and to the end where the length is null or left out
abbrev pub cut : Plain → Plain → Plain → Result Plain Fault
cut s start len = go_on (as_text s) (λ t. go_on (number_of start) (λ from. go_on (as_optional_number len)
    (λ n. within_length (part_of t from n))))

-- an array of texts under 0, 1, 2 and so on
abbrev pub numbered_from : ℕ → List (List ℕ) → Pairs
numbered_from n [] = empty
numbered_from n (t ∷ ts) = pair (int_key (pos n)) (text t) (numbered_from (n + 1) ts)

-- the pieces of a text; an empty separator is a fault
abbrev pub pieces_at : List ℕ → List ℕ → Result Plain Fault
pieces_at [] t = Err WrongType
pieces_at (b ∷ sep) t = Ok (array (numbered_from 0 (pieces_of (b ∷ sep) t)))

-- `explode(separator, s)`
abbrev pub exploded : Plain → Plain → Result Plain Fault
exploded separator s = go_on (as_text separator) (λ sep. go_on (as_text s) (pieces_at sep))

-- the text forms of the members of an array
abbrev pub member_texts : Pairs → List (List ℕ)
member_texts empty = []
member_texts (pair k v ps) = text_of v ∷ member_texts ps

-- `implode(separator, a)`
abbrev pub imploded : Plain → Plain → Result Plain Fault
imploded separator a = go_on (as_text separator) (λ sep. go_on (as_array a) (λ ps. within_length (join_of sep (member_texts ps))))

-- so many copies of a text; fewer than none is a fault
abbrev pub copies_at : List ℕ → ℤ → Result Plain Fault
copies_at t (pos n) = within_length (copies_of n t)
copies_at t (negsuc n) = Err WrongType

-- `str_repeat(s, n)`
abbrev pub repeated : Plain → Plain → Result Plain Fault
repeated s n = go_on (as_text s) (λ t. go_on (number_of n) (copies_at t))

-- `strlen(s)`
abbrev pub length_of : Plain → Result Plain Fault
length_of s = go_on (as_text s) (λ t. integer (in_64_bits (pos (length t))))

-- the value of a function of one argument
abbrev pub value_of_one : Builtin → Plain → Result Plain Fault
value_of_one Htmlspecialchars a = escaped a
value_of_one Strtolower a = of_text lower_of a
value_of_one Strtoupper a = of_text upper_of a
value_of_one Ucfirst a = of_text first_upper_of a
value_of_one Trim a = of_text (trim_of true true) a
value_of_one Ltrim a = of_text (trim_of true false) a
value_of_one Rtrim a = of_text (trim_of false true) a
value_of_one Nl2br a = of_text breaks_of a
value_of_one Urlencode a = of_text url_of a
value_of_one Rawurlencode a = of_text raw_url_of a
value_of_one Addslashes a = of_text slashes_of a
value_of_one Strlen a = length_of a
value_of_one Count a = count_of a
value_of_one Intval a = integer_of a
value_of_one Strval a = Ok (text (text_of a))
value_of_one IsArray a = Ok (flag (is_array a))
value_of_one IsString a = Ok (flag (is_text a))
value_of_one _ a = Err WrongType

-- the value of a function of two arguments
abbrev pub value_of_two : Builtin → Plain → Plain → Result Plain Fault
value_of_two Substr a b = cut a b null
value_of_two Explode a b = exploded a b
value_of_two Implode a b = imploded a b
value_of_two StrRepeat a b = repeated a b
value_of_two Intdiv a b = quotient_of a b
value_of_two _ a b = Err WrongType

-- the value of a function of three arguments
abbrev pub value_of_three : Builtin → Plain → Plain → Plain → Result Plain Fault
value_of_three StrReplace a b c = replaced a b c
value_of_three Substr a b c = cut a b c
value_of_three _ a b c = Err WrongType

-- the value of a function for its arguments; with another number of them no program calls it
abbrev pub builtin_value : Builtin → List Plain → Result Plain Fault
builtin_value f (a ∷ []) = value_of_one f a
builtin_value f (a ∷ b ∷ []) = value_of_two f a b
builtin_value f (a ∷ b ∷ c ∷ []) = value_of_three f a b c
builtin_value f _ = Err WrongType
