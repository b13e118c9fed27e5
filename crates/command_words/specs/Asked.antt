-- What words ask for: help, the version, a command with the values of its arguments, or nothing.
use Rattle.std.specs.Prelude.{◌≡◌, ◌⊎◌, [], ◌∷◌, ◌&&◌, ◌||◌, not, ℕ, List, Bool, true, false, Option, None, Some, length, nat_lt, if◌then◌else◌, option_map, option_and_then, unwrap_or, codes}
use Rattle.std.specs.List.{list_all}
use Rattle.std.specs.Str.Parse.{digits_value}
use Rattle.std.specs.Str.{bytes_eq}
use Rattle.clap.specs.Words.{Text, fault_of, first_of, subcommand_of, takes}
use Rattle.clap.specs.Words as clap
use Rattle.command_words.specs.declared.values.TheConstants.{PAIR_LIMIT}
use Rattle.command_words.specs.Program.{phpsa}

-- help, the version, or a command, with the file or the number that it is for; a document type and limits that are left out are `strict`,
-- 10,000 and 10,000,000, which root is meant where none is given is no matter of words, and where no file of stubs is given there is none
pub data Asked : Type 0 where
  help : Asked
  version : Asked
  check : (file definition : Text) (root stubs : Option Text) (limit : ℕ) (by_nesting as_json is_shortest : Bool) → Asked
  run : (file : Text) (root stubs request : Option Text) (steps : ℕ) → Asked
  page : (file definition : Text) (root : Option Text) → Asked
  grammar : (file : Text) (root stubs : Option Text) → Asked
  make : (functions : ℕ) (is_checked : Bool) → Asked
  site : (file definition : Text) (root stubs : Option Text) (limit : ℕ) (by_nesting : Bool) → Asked
  match_pattern : (file policy : Text) (root stubs : Option Text) → Asked

-- what words say of each argument, by its name
abbrev pub Values : Type 0
Values = Text → Option Text

-- one of `0`..`9`
abbrev pub is_digit : ℕ → Bool
is_digit byte = nat_lt 47 byte && nat_lt byte 58

-- a number is one to eight decimal digits that are not all 0
abbrev pub number_of : Text → Option ℕ
number_of text =
    if nat_lt (length text) 9 && list_all is_digit text && nat_lt 0 (digits_value 10 text) then Some (digits_value 10 text) else None

-- the number of an option, or the one that is meant where it is left out
abbrev pub number_or : ℕ → Option Text → Option ℕ
number_or usual None = Some usual
number_or usual (Some text) = number_of text

-- a flag is given
abbrev pub is_given : Option Text → Bool
is_given None = false
is_given (Some text) = bytes_eq text (codes "true")

-- the document type that is named, or `strict`
abbrev pub definition_of : Values → Text
definition_of values = unwrap_or (values (codes "dtd")) (codes "strict")

-- what `check` asks for; None where the file is missing or the limit is no number
abbrev pub asked_check : Values → Option Asked
asked_check values = option_and_then (λ file. option_map
    (λ limit. check file (definition_of values) (values (codes "root")) (values (codes "stubs")) limit
    (is_given (values (codes "nesting"))) (is_given (values (codes "json"))) (is_given (values (codes "shortest"))))
    (number_or PAIR_LIMIT (values (codes "limit")))) (values (codes "FILE"))

-- what `run` asks for; None where the file is missing or the most steps are no number
abbrev pub asked_run : Values → Option Asked
asked_run values = option_and_then (λ file. option_map (run file (values (codes "root")) (values (codes "stubs")) (values (codes "request")))
    (number_or 10000000 (values (codes "steps")))) (values (codes "FILE"))

-- what `page` asks for; None where the file is missing
abbrev pub asked_page : Values → Option Asked
asked_page values = option_map (λ file. page file (definition_of values) (values (codes "root"))) (values (codes "FILE"))

-- what `grammar` asks for; None where the file is missing
abbrev pub asked_grammar : Values → Option Asked
asked_grammar values = option_map (λ file. grammar file (values (codes "root")) (values (codes "stubs"))) (values (codes "FILE"))

-- what `make` asks for; None where the number of functions is missing or none
abbrev pub asked_make : Values → Option Asked
asked_make values = option_map (λ functions. make functions (is_given (values (codes "check"))))
    (option_and_then number_of (values (codes "N")))

-- what `site` asks for; None where the file is missing or the limit is no number
abbrev pub asked_site : Values → Option Asked
asked_site values = option_and_then (λ file. option_map
    (λ limit. site file (definition_of values) (values (codes "root")) (values (codes "stubs")) limit (is_given (values (codes "nesting"))))
    (number_or PAIR_LIMIT (values (codes "limit")))) (values (codes "FILE"))

-- what `match` asks for; None where the file or that of the pattern is missing
abbrev pub asked_match : Values → Option Asked
asked_match values = option_and_then (λ file. option_map
    (λ policy. match_pattern file policy (values (codes "root")) (values (codes "stubs"))) (values (codes "policy"))) (values (codes "FILE"))

-- what the command of this word asks for
abbrev pub asked_by : Text → Values → Option Asked
asked_by word values =
    if bytes_eq word (codes "check") then asked_check values
    else (if bytes_eq word (codes "run") then asked_run values
    else (if bytes_eq word (codes "page") then asked_page values
    else (if bytes_eq word (codes "grammar") then asked_grammar values
    else (if bytes_eq word (codes "make") then asked_make values
    else (if bytes_eq word (codes "site") then asked_site values
    else (if bytes_eq word (codes "match") then asked_match values else None))))))

-- what stands in the rows that `clap` makes of words
abbrev pub values_of : List clap.Row → Values
values_of rows name = first_of name rows

-- what words of a command ask for, where they are taken
abbrev pub asked : List Text → Option Asked
asked words = option_and_then (λ found. asked_by found.0 (values_of found.1)) (subcommand_of phpsa words)

-- `--`, behind which words are names
abbrev pub ends_options : Text → Bool
ends_options word = bytes_eq word (codes "--")

-- `--help` or `-h`
abbrev pub is_help : Text → Bool
is_help word = bytes_eq word (codes "--help") || bytes_eq word (codes "-h")

-- such a word stands ahead of `--`
abbrev pub has_help : List Text → Bool
has_help [] = false
has_help (word ∷ words) = not (ends_options word) && (is_help word || has_help words)

-- `--help` and `-h` anywhere ahead of `--`, `help` and `--version` as the first word: they come before all that is wrong with the words
abbrev pub asked_first : List Text → Option Asked
asked_first [] = None
asked_first (word ∷ words) =
    if bytes_eq word (codes "help") || has_help (word ∷ words) then Some help
    else (if bytes_eq word (codes "--version") then Some version else None)

-- `clap` takes the words: its test says so, or its table of faults has none for them
abbrev pub AreTaken : List Text → Type 0
AreTaken words = (takes phpsa words ≡ true) ⊎ (fault_of phpsa words ≡ [])

-- the words ask for help or the version, or are taken, and each number in them is one
unfoldable pub Asks : List Text → Asked → Type 0
Asks words for = (asked_first words ≡ Some for) ⊎ ((asked_first words ≡ None) × AreTaken words × (asked words ≡ Some for))

-- the words ask for neither, and are not taken, or a number in them is none
unfoldable pub AsksNothing : List Text → Type 0
AsksNothing words = (asked_first words ≡ None) × ((AreTaken words → ⊥) ⊎ (asked words ≡ None))
