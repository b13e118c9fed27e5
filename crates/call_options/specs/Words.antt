-- Words with the options of a file put in; this project's own.
use Rattle.std.specs.Prelude.{◌==◌, ◌&&◌, ◌||◌, ◌∷◌, ◌++◌, [], ℕ, List, Bool, true, false, not, Option, Some, None, if◌then◌else◌}
use Rattle.std.specs.List.{list_any}
use Rattle.std.specs.Str.{bytes_eq}
use Rattle.command_words.specs.Asked.{Values, ends_options}
use Rattle.command_words.specs.Program.{Row, commands}
use Rattle.call_options.specs.Members.{Setting}

-- the options of the command of this word, by the rows of the commands; none where it is no command
abbrev pub options_of : List Row → List ℕ → List (List ℕ)
options_of [] word = []
options_of (row ∷ rows) word = if bytes_eq word row.word then row.options else options_of rows word

-- the name is one of these
abbrev pub is_one_of : List ℕ → List (List ℕ) → Bool
is_one_of name names = list_any (λ other. bytes_eq name other) names

-- the command of this word takes this option
abbrev pub takes : List ℕ → List ℕ → Bool
takes word name = is_one_of name (options_of commands word)

-- the name, or the name with `=` (61) behind it and any value
abbrev pub is_named : List ℕ → List ℕ → Bool
is_named [] [] = true
is_named [] (byte ∷ bytes) = byte == 61
is_named (byte ∷ name) [] = false
is_named (byte ∷ name) (other ∷ bytes) = (other == byte) && is_named name bytes

-- `--NAME` or `--NAME=VALUE`
abbrev pub is_option : List ℕ → List ℕ → Bool
is_option name word = is_named (45 ∷ 45 ∷ name) word

-- one of these words ahead of `--` is this option
abbrev pub say : List (List ℕ) → List ℕ → Bool
say [] name = false
say (word ∷ words) name = not (ends_options word) && (is_option name word || say words name)

-- `--NAME=VALUE`
abbrev pub option_word : Setting → List ℕ
option_word setting = 45 ∷ 45 ∷ setting.0 ++ 61 ∷ setting.1

-- the command takes the option, and the words behind it do not say it themselves
abbrev pub is_wanted : List (List ℕ) → Setting → Bool
is_wanted [] setting = false
is_wanted (word ∷ words) setting = takes word setting.0 && not (say words setting.0)

-- a word stands behind the first one
abbrev pub behind_first : List ℕ → List (List ℕ) → List (List ℕ)
behind_first more [] = []
behind_first more (word ∷ words) = word ∷ more ∷ words

-- an option that is wanted stands behind the command
abbrev pub with_option : List (List ℕ) → Setting → List (List ℕ)
with_option words setting = if is_wanted words setting then behind_first (option_word setting) words else words

-- words with options put in, one after another: so the first of a name counts
abbrev pub with_options : List (List ℕ) → List Setting → List (List ℕ)
with_options words [] = words
with_options words (setting ∷ settings) = with_options (with_option words setting) settings

-- the value of the first option of this name that is one of a command's
abbrev pub set_by : List (List ℕ) → List Setting → List ℕ → Option (List ℕ)
set_by options [] name = None
set_by options (setting ∷ settings) name =
    if is_one_of setting.0 options && bytes_eq setting.0 name then Some setting.1 else set_by options settings name

-- what is said first, or else this
abbrev pub first_said : Option (List ℕ) → Option (List ℕ) → Option (List ℕ)
first_said None other = other
first_said (Some value) other = Some value

-- what the words say of each argument, and where they say nothing of it the options that the command takes
abbrev pub filled : List (List ℕ) → List Setting → Values → Values
filled options settings values name = first_said (values name) (set_by options settings name)
