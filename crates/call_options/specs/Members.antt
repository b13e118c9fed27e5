-- The members of a file of options, and what each says; this project's own. `Data` is what `toml` reads.
use Rattle.std.specs.Prelude.{◌==◌, ◌&&◌, ◌∷◌, ◌++◌, [], ℕ, ℤ, pos, List, Bool, true, false, not, Option, Some, None, int_lt, is_some, if◌then◌else◌, option_and_then, codes}
use Rattle.std.specs.Fmt.{signed_decimal}
use Rattle.std.specs.Str.{bytes_eq}
use Rattle.toml.specs.Data.{Data, string, integer, float, boolean, datetime, array, table, Members, no_members, member}

-- an option with its value, as words have them: `dtd` and `mini` of `--dtd=mini`
abbrev pub Setting : Type 0
Setting = List ℕ × List ℕ

-- what the value of a member is: a name, or a number
pub data Kind : Type 0 where
  name : Kind
  number : Kind

-- the members that a file may have; each is the option of that name
abbrev pub kind_of : List ℕ → Option Kind
kind_of said =
    if bytes_eq said (codes "dtd") then Some name
    else (if bytes_eq said (codes "limit") then Some number
    else (if bytes_eq said (codes "root") then Some name
    else (if bytes_eq said (codes "stubs") then Some name else None)))

-- a text that words may have as a value: neither empty nor with `-` (45) in front, but that it may be `-` alone
abbrev pub is_plain : List ℕ → Bool
is_plain [] = false
is_plain (byte ∷ []) = true
is_plain (byte ∷ bytes) = not (byte == 45)

-- a name is such a text
abbrev pub name_value : Data → Option (List ℕ)
name_value (string text) = if is_plain text then Some text else None
name_value (integer z) = None
name_value (float x) = None
name_value (boolean b) = None
name_value (datetime dt) = None
name_value (array ds) = None
name_value (table ms) = None

-- a number is from 1 to 99,999,999, as words have it
abbrev pub number_text : ℤ → Option (List ℕ)
number_text z = if int_lt (pos 0) z && int_lt z (pos 100000000) then Some (signed_decimal z) else None

-- a number is an integer
abbrev pub number_value : Data → Option (List ℕ)
number_value (string text) = None
number_value (integer z) = number_text z
number_value (float x) = None
number_value (boolean b) = None
number_value (datetime dt) = None
number_value (array ds) = None
number_value (table ms) = None

-- the value of an option, where the member's is of this kind
abbrev pub value_of : Data → Kind → Option (List ℕ)
value_of held name = name_value held
value_of held number = number_value held

-- the value of the option that a member says; None where there is no such member, or its value is of another kind
abbrev pub said_by : List ℕ → Data → Option (List ℕ)
said_by member_name held = option_and_then (value_of held) (kind_of member_name)

-- the first member that says no option
abbrev pub first_refused : Members → Option (List ℕ)
first_refused no_members = None
first_refused (member member_name held rest) = if is_some (said_by member_name held) then first_refused rest else Some member_name

-- an option with its value, where there is one
abbrev pub setting_list : List ℕ → Option (List ℕ) → List Setting
setting_list option_name None = []
setting_list option_name (Some value) = (option_name, value) ∷ []

-- the options that the members say, one behind the other
abbrev pub settings_in : Members → List Setting
settings_in no_members = []
settings_in (member member_name held rest) = setting_list member_name (said_by member_name held) ++ settings_in rest
