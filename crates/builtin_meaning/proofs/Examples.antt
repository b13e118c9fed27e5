-- The definitions at worked cases of the PHP manual, and at near misses.
use Rattle.std.proofs.Common.{◌≡◌, ℕ, pos, negsuc, true, false, List, [], ◌∷◌, ◌++◌, Some, None, Ok, Err, refl}
use Rattle.std.specs.Prelude.{codes}
use Rattle.std.specs.Fmt.{digits}
use Rattle.std.specs.Str.{is_utf8, chars}
use lib.Utf8.{encode}
use Rattle.plain_values.specs.Plain.{int_key, text_key, null, flag, int, text, array, empty, pair}
use Rattle.plain_values.specs.declared.fault.Fault.TheVariants.{WrongType, NotUtf8, NotNumber, ZeroDivisor, Float}
use Rattle.builtin_meaning.specs.declared.builtin.Builtin.TheVariants.{Htmlspecialchars, StrReplace, Substr, Strtolower, Strtoupper, Ucfirst, Trim, Ltrim, Rtrim, Nl2br, Urlencode, Rawurlencode, Addslashes, Explode, Implode, StrRepeat, Strlen, Count, Intval, Intdiv, Strval, IsArray, IsString}
use Rattle.builtin_meaning.specs.declared.builtin.Builtin.{Builtin}
use Rattle.builtin_meaning.specs.Names.{builtin_named}
use Rattle.builtin_meaning.specs.Values.{builtin_value}

-- names
a_name : builtin_named (codes "nl2br") ≡ Some Nl2br
a_name = refl

no_name : builtin_named (codes "printf") ≡ None
no_name = refl

another_case : builtin_named (codes "Trim") ≡ None
another_case = refl

-- `str_replace('aa', 'b', 'aaa')`: from the left, without overlap
replaces : builtin_value StrReplace (text (codes "aa") ∷ text (codes "b") ∷ text (codes "aaa") ∷ []) ≡ Ok (text (codes "ba"))
replaces = refl

-- what is put in is not searched again
not_again : builtin_value StrReplace (text (codes "a") ∷ text (codes "aa") ∷ text (codes "aba") ∷ []) ≡ Ok (text (codes "aabaa"))
not_again = refl

empty_search : builtin_value StrReplace (text [] ∷ text (codes "x") ∷ text (codes "ab") ∷ []) ≡ Ok (text (codes "ab"))
empty_search = refl

-- `substr('abc', -2)`, `substr('abc', 5)`, `substr('abc', 1, null)`, `substr('abc', 0, -1)`
from_the_end : builtin_value Substr (text (codes "abc") ∷ int (negsuc 1) ∷ []) ≡ Ok (text (codes "bc"))
from_the_end = refl

past_the_end : builtin_value Substr (text (codes "abc") ∷ int (pos 5) ∷ []) ≡ Ok (text [])
past_the_end = refl

null_length : builtin_value Substr (text (codes "abc") ∷ int (pos 1) ∷ null ∷ []) ≡ Ok (text (codes "bc"))
null_length = refl

negative_length : builtin_value Substr (text (codes "abc") ∷ int (pos 0) ∷ int (negsuc 0) ∷ []) ≡ Ok (text (codes "ab"))
negative_length = refl

-- an earlier argument's fault goes first
first_fault : builtin_value Substr (array empty ∷ text (codes "x") ∷ []) ≡ Err WrongType
first_fault = refl

second_fault : builtin_value Substr (text (codes "abc") ∷ text (codes "x") ∷ []) ≡ Err NotNumber
second_fault = refl

upper_first : builtin_value Ucfirst (text (codes "ab") ∷ []) ≡ Ok (text (codes "Ab"))
upper_first = refl

url : builtin_value Urlencode (text (codes "a b~") ∷ []) ≡ Ok (text (codes "a+b%7E"))
url = refl

raw_url : builtin_value Rawurlencode (text (codes "a b~") ∷ []) ≡ Ok (text (codes "a%20b~"))
raw_url = refl

html : builtin_value Htmlspecialchars (text (codes "<a href='x'>&") ∷ []) ≡ Ok (text (codes "&lt;a href=&#039;x&#039;&gt;&amp;"))
unfolding is_utf8 chars encode
html = refl

-- the byte 255 is no UTF-8
no_utf8 : builtin_value Htmlspecialchars (text (255 ∷ []) ∷ []) ≡ Err NotUtf8
unfolding is_utf8 chars
no_utf8 = refl

-- a number as a text; an array is none
number_as_text : builtin_value Strlen (int (negsuc 11) ∷ []) ≡ Ok (int (pos 3))
unfolding digits
number_as_text = refl

array_as_text : builtin_value Strlen (array empty ∷ []) ≡ Err WrongType
array_as_text = refl

-- but `strval` gives the text `Array`
array_text : builtin_value Strval (array empty ∷ []) ≡ Ok (text (codes "Array"))
array_text = refl

-- `explode(',', 'a,,b')`
pieces : builtin_value Explode (text (codes ",") ∷ text (codes "a,,b") ∷ []) ≡ Ok (array (pair (int_key (pos 0)) (text (codes "a")) (pair (int_key (pos 1)) (text []) (pair (int_key (pos 2)) (text (codes "b")) empty))))
pieces = refl

-- `explode('', 'a')` is a fault, and `explode(',', '')` one empty piece
no_separator : builtin_value Explode (text [] ∷ text (codes "a") ∷ []) ≡ Err WrongType
no_separator = refl

one_piece : builtin_value Explode (text (codes ",") ∷ text [] ∷ []) ≡ Ok (array (pair (int_key (pos 0)) (text []) empty))
one_piece = refl

-- `implode('-', ['a', [1], true])`
joined : builtin_value Implode (text (codes "-") ∷ array (pair (int_key (pos 0)) (text (codes "a")) (pair (int_key (pos 1)) (array empty) (pair (int_key (pos 2)) (flag true) empty))) ∷ []) ≡ Ok (text (codes "a-Array-1"))
joined = refl

no_array : builtin_value Implode (text (codes "-") ∷ text (codes "a") ∷ []) ≡ Err WrongType
no_array = refl

copies : builtin_value StrRepeat (text (codes "ab") ∷ int (pos 3) ∷ []) ≡ Ok (text (codes "ababab"))
copies = refl

negative_copies : builtin_value StrRepeat (text (codes "ab") ∷ int (negsuc 0) ∷ []) ≡ Err WrongType
negative_copies = refl

-- `count` of a text is a fault
counted : builtin_value Count (array (pair (text_key (codes "k")) null empty) ∷ []) ≡ Ok (int (pos 1))
counted = refl

no_count : builtin_value Count (text (codes "a") ∷ []) ≡ Err WrongType
no_count = refl

-- `intval(' +12ab')` and `intdiv(-7, 2)`
number_in_front : builtin_value Intval (text (codes " +12ab") ∷ []) ≡ Ok (int (pos 12))
number_in_front = refl

exponent_form : builtin_value Intval (text (codes "1e3") ∷ []) ≡ Err Float
exponent_form = refl

towards_zero : builtin_value Intdiv (int (negsuc 6) ∷ int (pos 2) ∷ []) ≡ Ok (int (negsuc 2))
towards_zero = refl

by_zero : builtin_value Intdiv (int (pos 1) ∷ int (pos 0) ∷ []) ≡ Err ZeroDivisor
by_zero = refl

-- each function under its own name
abbrev named : List ℕ → Builtin → Type 0
named name f = builtin_named name ≡ Some f

names : named (codes "htmlspecialchars") Htmlspecialchars × named (codes "str_replace") StrReplace × named (codes "substr") Substr × named (codes "strtolower") Strtolower
    × named (codes "strtoupper") Strtoupper × named (codes "ucfirst") Ucfirst × named (codes "trim") Trim × named (codes "ltrim") Ltrim × named (codes "rtrim") Rtrim
    × named (codes "urlencode") Urlencode × named (codes "rawurlencode") Rawurlencode × named (codes "addslashes") Addslashes × named (codes "explode") Explode
    × named (codes "implode") Implode × named (codes "str_repeat") StrRepeat × named (codes "strlen") Strlen × named (codes "count") Count × named (codes "intval") Intval
    × named (codes "intdiv") Intdiv × named (codes "strval") Strval × named (codes "is_array") IsArray × named (codes "is_string") IsString
names = (refl, refl, refl, refl, refl, refl, refl, refl, refl, refl, refl, refl, refl, refl, refl, refl, refl, refl, refl, refl, refl, refl)

-- case of letters
lower : builtin_value Strtolower (text (codes "aB1") ∷ []) ≡ Ok (text (codes "ab1"))
lower = refl

upper : builtin_value Strtoupper (text (codes "aB1") ∷ []) ≡ Ok (text (codes "AB1"))
upper = refl

-- `trim(" a b\n")` and its like; a form feed stays
both_ends : builtin_value Trim (text (32 ∷ 97 ∷ 32 ∷ 98 ∷ 10 ∷ []) ∷ []) ≡ Ok (text (codes "a b"))
both_ends = refl

left_end : builtin_value Ltrim (text (codes " a ") ∷ []) ≡ Ok (text (codes "a "))
left_end = refl

right_end : builtin_value Rtrim (text (codes " a ") ∷ []) ≡ Ok (text (codes " a"))
right_end = refl

form_feed : builtin_value Trim (text (12 ∷ 97 ∷ []) ∷ []) ≡ Ok (text (12 ∷ 97 ∷ []))
form_feed = refl

-- `nl2br("a\r\nb\n")`: CR LF is one line end
breaks : builtin_value Nl2br (text (97 ∷ 13 ∷ 10 ∷ 98 ∷ 10 ∷ []) ∷ []) ≡ Ok (text (97 ∷ codes "<br />" ++ (13 ∷ 10 ∷ 98 ∷ codes "<br />" ++ (10 ∷ []))))
breaks = refl

-- `addslashes("a'\0")`
slashes : builtin_value Addslashes (text (97 ∷ 39 ∷ 0 ∷ []) ∷ []) ≡ Ok (text (97 ∷ 92 ∷ 39 ∷ 92 ∷ 48 ∷ []))
slashes = refl

-- types
arrays : builtin_value IsArray (array empty ∷ []) ≡ Ok (flag true)
arrays = refl

no_arrays : builtin_value IsArray (text (codes "a") ∷ []) ≡ Ok (flag false)
no_arrays = refl

texts : builtin_value IsString (text (codes "a") ∷ []) ≡ Ok (flag true)
texts = refl

no_texts : builtin_value IsString (int (pos 1) ∷ []) ≡ Ok (flag false)
no_texts = refl

-- a fault of the third argument, where the others serve
third_fault : builtin_value StrReplace (text (codes "a") ∷ text (codes "b") ∷ array empty ∷ []) ≡ Err WrongType
third_fault = refl

third_number : builtin_value Substr (text (codes "abc") ∷ int (pos 0) ∷ text (codes "x") ∷ []) ≡ Err NotNumber
third_number = refl
