-- The commands with their arguments, as rows of data, and as `clap` knows them; `docs/command-line.md` lists them for users.
use Rattle.std.specs.Prelude.{List, [], ◌∷◌, ◌++◌, Some, true, codes, fold, map}
use Rattle.clap.specs.Words.{App, Rule, Shape, Text, new_app, new_rule, with_rule, with_subcommand}
use Rattle.clap.specs.declared.builder.action.ArgAction.{ArgAction}
use Rattle.clap.specs.declared.builder.action.ArgAction.TheVariants.{Set, SetTrue}

-- a command: its word, its one argument without a name, its options, which take a value, and its flags; own
pub record Row : Type 0 where
  pub word : Text
  pub place : Text
  pub options : List Text
  pub flags : List Text

-- a row by its parts
abbrev pub row_of : (word place : Text) (options flags : List Text) → Row
row_of word place options flags = record { word = word; place = place; options = options; flags = flags }

-- `phpsa check`: a script is decided
abbrev pub check : Row
check = row_of (codes "check") (codes "FILE") (codes "dtd" ∷ codes "limit" ∷ codes "root" ∷ codes "stubs" ∷ []) (codes "nesting" ∷ codes "json" ∷ codes "shortest" ∷ [])

-- `phpsa run`: a script is run
abbrev pub run : Row
run = row_of (codes "run") (codes "FILE") (codes "request" ∷ codes "steps" ∷ codes "root" ∷ codes "stubs" ∷ []) []

-- `phpsa page`: a page is judged
abbrev pub page : Row
page = row_of (codes "page") (codes "FILE") (codes "dtd" ∷ codes "root" ∷ []) []

-- `phpsa grammar`: the grammar of a script is written
abbrev pub grammar : Row
grammar = row_of (codes "grammar") (codes "FILE") (codes "root" ∷ codes "stubs" ∷ []) []

-- `phpsa make`: a script is made
abbrev pub make : Row
make = row_of (codes "make") (codes "N") [] (codes "check" ∷ [])

-- `phpsa site`: each script of a list is decided
abbrev pub site : Row
site = row_of (codes "site") (codes "FILE") (codes "dtd" ∷ codes "limit" ∷ codes "root" ∷ codes "stubs" ∷ []) (codes "nesting" ∷ [])

-- `phpsa match`: the pages of a script are held against a pattern
abbrev pub match_pattern : Row
match_pattern = row_of (codes "match") (codes "FILE") (codes "policy" ∷ codes "root" ∷ codes "stubs" ∷ []) []

-- all commands
abbrev pub commands : List Row
commands = check ∷ run ∷ page ∷ grammar ∷ make ∷ site ∷ match_pattern ∷ []

-- the one argument without a name, which a command wants
abbrev pub place : Text → Rule
place name = record (new_rule name) { required = true; action = Some Set }

-- `--NAME VALUE` or `--NAME=VALUE` of an option, `--NAME` of a flag
abbrev pub named : ArgAction → Text → Rule
named action name = record (new_rule name) { long = Some name; action = Some action }

-- a command as `clap` knows it
abbrev pub command : Row → App
command row = fold with_rule (new_app row.word) (place row.place ∷ map (named Set) row.options ++ map (named SetTrue) row.flags)

-- a command is wanted, and `clap` takes no word for help or the version
abbrev settings : Shape → Shape
settings shape = record shape {
  no_binary_name = true;
  disable_help_flag = true;
  disable_help_subcommand = true;
  disable_version_flag = true;
  subcommand_required = true;
}

-- the program before its commands are added
abbrev pub base : App
base = record { top = settings (new_app (codes "phpsa")).top; subs = [] }

-- the program, whose words stand behind its own name
unfoldable pub phpsa : App
phpsa = fold with_subcommand base (map (λ row. (command row).top) commands)
