-- The names of the functions, in lower case (PHP manual, each function under its name).
use Rattle.std.specs.Prelude.{ℕ, List, [], ◌∷◌, Option, Some, None, codes, bytes_eq, if◌then◌else◌}
use Rattle.builtin_meaning.specs.declared.builtin.Builtin.{Builtin}
use Rattle.builtin_meaning.specs.declared.builtin.Builtin.TheVariants.{Htmlspecialchars, StrReplace, Substr, Strtolower, Strtoupper, Ucfirst, Trim, Ltrim, Rtrim, Nl2br, Urlencode, Rawurlencode, Addslashes, Explode, Implode, StrRepeat, Strlen, Count, Intval, Intdiv, Strval, IsArray, IsString}

-- the function of a name, by a table
abbrev pub find_function : List (List ℕ × Builtin) → List ℕ → Option Builtin
find_function [] name = None
find_function (row ∷ rows) name = if bytes_eq name row.0 then Some row.1 else find_function rows name

-- those that change a text
abbrev pub text_functions : List (List ℕ × Builtin)
text_functions =
    (codes "str_replace", StrReplace) ∷ (codes "substr", Substr) ∷ (codes "strtolower", Strtolower) ∷ (codes "strtoupper", Strtoupper)
    ∷ (codes "ucfirst", Ucfirst) ∷ (codes "trim", Trim) ∷ (codes "ltrim", Ltrim) ∷ (codes "rtrim", Rtrim)
    ∷ (codes "str_repeat", StrRepeat) ∷ []

-- those that escape and encode
abbrev pub code_functions : List (List ℕ × Builtin)
code_functions =
    (codes "htmlspecialchars", Htmlspecialchars) ∷ (codes "nl2br", Nl2br) ∷ (codes "urlencode", Urlencode)
    ∷ (codes "rawurlencode", Rawurlencode) ∷ (codes "addslashes", Addslashes) ∷ []

-- those between texts and arrays, and the tests of a type
abbrev pub list_functions : List (List ℕ × Builtin)
list_functions = (codes "explode", Explode) ∷ (codes "implode", Implode) ∷ (codes "is_array", IsArray) ∷ (codes "is_string", IsString) ∷ []

-- those that give a number, and the text form
abbrev pub number_functions : List (List ℕ × Builtin)
number_functions = (codes "strlen", Strlen) ∷ (codes "count", Count) ∷ (codes "intval", Intval) ∷ (codes "intdiv", Intdiv)
    ∷ (codes "strval", Strval) ∷ []

-- the first function, if there is one, and else the second
abbrev pub first_of : Option Builtin → Option Builtin → Option Builtin
first_of None other = other
first_of (Some b) other = Some b

-- the function of a name, if PHP's functions here have the name
abbrev pub builtin_named : List ℕ → Option Builtin
builtin_named name =
    first_of (find_function text_functions name)
    (first_of (find_function code_functions name) (first_of (find_function list_functions name) (find_function number_functions name)))
