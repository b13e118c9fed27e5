-- Words in the forms that the documents show. Whatever their order, they are taken.
use Rattle.std.specs.Prelude.{◌≡◌, ◌==◌, ◌⊎◌, ◌++◌, List, [], ◌∷◌, Bool, true, false, Option, Some, None, if◌then◌else◌, codes}
use Rattle.std.specs.List.{list_any}
use Rattle.std.specs.Str.{bytes_eq}
use Rattle.clap.specs.Words.{Text}
use Rattle.command_words.specs.Program.{Row, commands}
use Rattle.command_words.specs.Asked.{Asked, asked_by}

-- not empty, and with `-` in front only where it is that alone, which is a name like others
abbrev pub IsPlain : Text → Type 0
IsPlain [] = ⊥
IsPlain (byte ∷ []) = Unit {0}
IsPlain (byte ∷ bytes) = (byte == 45) ≡ false

-- the file or the number, `--NAME=VALUE`, `--NAME VALUE` and `--NAME`
pub data Part : Type 0 where
  place : Text → Part
  joined : Text → Text → Part
  apart : Text → Text → Part
  flag : Text → Part

-- the words of a part
abbrev pub part_words : Part → List Text
part_words (place value) = value ∷ []
part_words (joined name value) = (45 ∷ 45 ∷ name ++ 61 ∷ value) ∷ []
part_words (apart name value) = (45 ∷ 45 ∷ name) ∷ value ∷ []
part_words (flag name) = (45 ∷ 45 ∷ name) ∷ []

-- the words of the parts, one part behind the other
abbrev pub parts_words : List Part → List Text
parts_words [] = []
parts_words (part ∷ parts) = part_words part ++ parts_words parts

-- behind them, the file or the number may stand after `--`, whatever it begins with
abbrev pub last_words : Option Text → List Text
last_words None = []
last_words (Some value) = (45 ∷ 45 ∷ []) ∷ value ∷ []

-- the words after the command's own
abbrev pub all_words : List Part → Option Text → List Text
all_words parts last = parts_words parts ++ last_words last

-- one of these
abbrev pub IsAmong : {X : Type 0} → X → List X → Type 0
IsAmong x [] = ⊥
IsAmong x (other ∷ others) = (x ≡ other) ⊎ IsAmong x others

-- whether the name is one of these, byte by byte
abbrev pub is_among : Text → List Text → Bool
is_among name names = list_any (λ other. bytes_eq other name) names

-- the argument that a part is for, by the place's name
abbrev pub name_of : Text → Part → Text
name_of at (place value) = at
name_of at (joined name value) = name
name_of at (apart name value) = name
name_of at (flag name) = name

-- a part is one of the command's arguments, none that stood before, and its value is plain
abbrev pub IsPart : Row → List Text → Part → Type 0
IsPart row before (place value) = IsPlain value × (is_among row.place before ≡ false)
IsPart row before (joined name value) = IsPlain value × IsAmong name row.options × (is_among name before ≡ false)
IsPart row before (apart name value) = IsPlain value × IsAmong name row.options × (is_among name before ≡ false)
IsPart row before (flag name) = IsAmong name row.flags × (is_among name before ≡ false)

-- the place stands among the parts, or after `--`
abbrev pub IsEnd : Text → List Text → Option Text → Type 0
IsEnd at before None = is_among at before ≡ true
IsEnd at before (Some value) = is_among at before ≡ false

-- each part is one of the command's that stood neither among these names nor before it, and the place stands once
abbrev pub AreParts : Row → List Text → List Part → Option Text → Type 0
AreParts row before [] last = IsEnd row.place before last
AreParts row before (part ∷ parts) last = IsPart row before part × AreParts row (name_of row.place part ∷ before) parts last

-- canonical words of a command: each argument at most once, in any order, and its place once
abbrev pub AreCanonical : Row → List Part → Option Text → Type 0
AreCanonical row parts last = AreParts row [] parts last

-- what a part says of the argument of this name
abbrev pub part_value : Part → Text
part_value (place value) = value
part_value (joined name value) = value
part_value (apart name value) = value
part_value (flag name) = codes "true"

-- what the value behind `--` says of the argument of this name: it is that of the place
abbrev pub last_value : Text → Option Text → Text → Option Text
last_value at None name = None
last_value at (Some value) name = if bytes_eq at name then Some value else None

-- what the parts say of the argument of this name, by the place's name
abbrev pub given : Text → List Part → Option Text → Text → Option Text
given at [] last name = last_value at last name
given at (part ∷ parts) last name = if bytes_eq (name_of at part) name then Some (part_value part) else given at parts last name

-- Canonical words of a command, and what they ask for: their parts are those of the command, and each number in them is one.
pub data IsCanonical (words : List Text) (for : Asked) : Type 0 where
  canonical : (row : Row) (parts : List Part) (last : Option Text) → IsAmong row commands → AreCanonical row parts last
      → words ≡ row.word ∷ all_words parts last → asked_by row.word (given row.place parts last) ≡ Some for → IsCanonical words for
