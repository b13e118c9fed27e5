-- Which program a file stands for.
use Rattle.std.specs.Prelude.{◌≡◌, ℕ, ◌+◌, List, [], ◌∷◌, ◌++◌, Some, None, slice_get, not}
use Rattle.std.specs.List.{Contains, filter}
use Rattle.php_syntax.specs.Trees.{PlainFile, PlainFunction}
use Rattle.script_meaning.specs.Programs.{PlainProgram}
use Rattle.program_rules.specs.Files.{Held, HasTree}
use Rattle.program_rules.specs.Includes.{Reads, Asks, LeadsTo}
use Rattle.program_rules.specs.Expansion.{StandsFor, FunctionStandsFor}
use Rattle.program_rules.specs.Rules.{is_double, KeepsRules}
use Rattle.program_rules.specs.Limits.{HasPlaces, HavePlaces, IsWithin}

-- a file that is read, with its tree
pub record ReadFile : Type 0 where
  pub name : List ℕ
  pub tree : PlainFile

-- at a place of a list stands a file
abbrev pub StandsAt : List ReadFile → ℕ → ReadFile → Type 0
StandsAt files i file = slice_get files i ≡ Some file

-- these are the files that a program reads, each once
pub record AreRead (held : Held) (name : List ℕ) (files : List ReadFile) : Type 0 where
  pub each : (file : ReadFile) → Contains files file → Reads held name file.name × HasTree held file.name file.tree
  pub all : (path : List ℕ) → Reads held name path → (tree : PlainFile) × Contains files (record { name = path; tree = tree })
  pub once : (i j : ℕ) (path : List ℕ) (tree other : PlainFile) → StandsAt files i (record { name = path; tree = tree })
      → StandsAt files j (record { name = path; tree = other }) → i ≡ j

-- no name stands twice in a list
abbrev pub StandOnce : List (List ℕ) → Type 0
StandOnce names = (i j : ℕ) (name : List ℕ) → slice_get names i ≡ Some name → slice_get names j ≡ Some name → i ≡ j

-- these are the names that a program asks for and that are not there, each once
pub record AreMissed (held : Held) (name : List ℕ) (missed : List (List ℕ)) : Type 0 where
  pub each : (path : List ℕ) → Contains missed path → Asks held name path × (held.bytes path ≡ None)
  pub all : (path : List ℕ) → Asks held name path → held.bytes path ≡ None → Contains missed path
  pub once : StandOnce missed

-- the functions of all files, each file's in turn
unfoldable pub functions_in : List ReadFile → List PlainFunction
functions_in [] = []
functions_in (file ∷ files) = file.tree.functions_of ++ functions_in files

-- each function of a table is one of the files', in their order, with what its body stands for
pub data TableStandsFor (held : Held) : List PlainFunction → List PlainFunction → Type 0 where
  none : TableStandsFor held [] []
  more : (f g : PlainFunction) (fs gs : List PlainFunction) → FunctionStandsFor held f g → TableStandsFor held fs gs
      → TableStandsFor held (f ∷ fs) (g ∷ gs)

-- of the functions of a file of stubs a program with these functions of its own takes those that have the name of none of them, nor of one
-- of PHP's
abbrev pub taken : List PlainFunction → List PlainFunction → List PlainFunction
taken own stubs = filter (λ (f : PlainFunction). not (is_double f.name_of own)) stubs

-- no file that the program reads includes itself, directly or through others
abbrev pub HasNoCycle : Held → List ℕ → Type 0
HasNoCycle held name = (path : List ℕ) → Reads held name path → LeadsTo held path path → ⊥

-- the program that the file of a name stands for, where a file of stubs has these functions: its statements, and one table of the functions
-- of all files and behind them the stubs that it takes, by the rules and within the limits
pub record IsProgram (held : Held) (name : List ℕ) (stubs : List PlainFunction) (program : PlainProgram) : Type 0 where
  pub files : List ReadFile
  pub read : AreRead held name files
  pub acyclic : HasNoCycle held name
  pub tree : PlainFile
  pub spelled : HasTree held name tree
  pub main : StandsFor held tree.body_of program.main_of
  pub own : List PlainFunction
  pub stand : TableStandsFor held (functions_in files) own
  pub functions : program.functions_of ≡ own ++ taken own stubs
  pub rules : KeepsRules program
  pub own_places : ℕ
  pub has_places : HasPlaces held tree.body_of own_places
  pub function_places : ℕ
  pub have_places : HavePlaces held (functions_in files) function_places
  pub within : IsWithin (own_places + function_places) program
