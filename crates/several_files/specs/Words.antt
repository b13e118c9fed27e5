-- The words that ask for `check` of files, by the rules of POSIX.1-2017, 12.2, as `clap` takes them.
use Rattle.std.specs.Prelude.{◌==◌, ◌++◌, ◌&&◌, ◌||◌, ℕ, List, [], ◌∷◌, map, Bool, true, false, not, Option, None, Some, if◌then◌else◌, bytes_eq, codes}
use Rattle.command_words.specs.Asked.{ends_options, has_help}
use Rattle.several_files.specs.declared.words.Place.{Place}
use Rattle.several_files.specs.declared.words.Place.TheVariants.{Free, Value, Names}

-- a name of a file, and whether it was found in a folder
pub record FileName : Type 0 where
  pub name : List ℕ
  pub is_found : Bool

-- a name that stands among the words
abbrev pub given : List ℕ → FileName
given name = record { name = name; is_found = false }

-- what is asked of `check`: its options with their values, and its names
pub record Checks : Type 0 where
  pub options : List (List ℕ)
  pub files : List FileName

-- an option begins with `-` (45), and is not `-` alone
abbrev pub is_option : List ℕ → Bool
is_option [] = false
is_option (byte ∷ []) = false
is_option (byte ∷ next ∷ bytes) = byte == 45

-- the value of this option is the next word
abbrev pub takes_next : List ℕ → Bool
takes_next word =
    bytes_eq word (codes "--dtd") || bytes_eq word (codes "--limit") || bytes_eq word (codes "--root") || bytes_eq word (codes "--stubs")

-- where a word stands that comes behind one which stands there
abbrev pub place_behind : Place → List ℕ → Place
place_behind Names word = Names
place_behind Value word = Free
place_behind Free word = if ends_options word then Names else (if takes_next word then Value else Free)

-- a word that stands there is an option, or the value of one
abbrev pub is_option_at : Place → List ℕ → Bool
is_option_at Names word = false
is_option_at Value word = true
is_option_at Free word = is_option word && not (ends_options word)

-- a word that stands there is a name
abbrev pub is_name_at : Place → List ℕ → Bool
is_name_at Names word = true
is_name_at Value word = false
is_name_at Free word = not (is_option word)

-- the words that pass a test by where they stand, from a place on
abbrev pub words_where : (Place → List ℕ → Bool) → Place → List (List ℕ) → List (List ℕ)
words_where test place [] = []
words_where test place (word ∷ words) =
    (if test place word then word ∷ [] else []) ++ words_where test (place_behind place word) words

-- what the words behind `check` ask for
abbrev pub checks_in : List (List ℕ) → Checks
checks_in words = record { options = words_where is_option_at Free words; files = map given (words_where is_name_at Free words) }

-- what is asked of `check` where `check` stands first and help is not asked for
abbrev pub asked_checks : List (List ℕ) → Option Checks
asked_checks [] = None
asked_checks (word ∷ words) = if bytes_eq word (codes "check") && not (has_help (word ∷ words)) then Some (checks_in words) else None
