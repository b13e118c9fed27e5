-- Which program a source of files holds under a name, where it tells of each name that the program asks for, and of the file of stubs.
use Rattle.std.specs.Prelude.{◌≡◌, ◌≤◌, ⊤, ℕ, ◌+◌, List, [], length, Option, Some, None}
use Rattle.io_edge.specs.Told.{Content, known, Tells}
use Rattle.io_edge.specs.Names.{normal}
use Rattle.text_base.specs.declared.limits.TheConstants.{FILE_LIMIT}
use Rattle.php_syntax.specs.Trees.{PlainFunction}
use Rattle.script_meaning.specs.Programs.{PlainProgram}
use Rattle.program_rules.specs.declared.limits.TheConstants.{PLACE_LIMIT}
use Rattle.program_rules.specs.Files.{Held, HasTree}
use Rattle.program_rules.specs.Includes.{Asks}
use Rattle.program_rules.specs.Programs.{ReadFile, functions_in, AreMissed, taken, IsProgram}
use Rattle.program_files.specs.Order.{Reached}
use Rattle.program_files.specs.Stubs.{HasStubs}
use Rattle.program_sizes.specs.FileRules.{KeepFunctionRules}

-- of the functions of a file of stubs, those that the program of these files takes
abbrev pub stubs_for : List ReadFile → List PlainFunction → List PlainFunction
stubs_for files functions = taken (functions_in files) functions

-- the program of the file of a name in its normal form, where a file of stubs has these functions, with the functions of its files in the
-- order of first include
pub record IsProgramInOrder (held : Held) (name : List ℕ) (functions : List PlainFunction) (program : PlainProgram) : Type 0 where
  pub is_program : IsProgram held name functions program
  pub in_order : Reached (HasTree held) name is_program.files []

-- each name that the program of the file of a name asks for was answered, and by what was held where that is told
abbrev pub AreAnswered : Content → Held → List ℕ → Type 0
AreAnswered content held name = (path : List ℕ) → Asks held (normal name) path → Tells (content path) (held.bytes path)

-- whatever the source tells: each name that the program asks for was answered, as the file of stubs was, if there is one, and the answers
-- make this program of the file of the name
pub record IsLoaded (content : Content) (name : List ℕ) (stubs : Option (List ℕ)) (program : PlainProgram) : Type 0 where
  pub held : Held
  pub main : held.main ≡ normal name
  pub answered : AreAnswered content held name
  pub functions : List PlainFunction
  pub has_stubs : HasStubs content stubs functions
  pub is_program : IsProgramInOrder held (normal name) functions program

-- the source tells of each name that the program of the file of a name asks for, and this was held
abbrev pub TellsAll : Content → Held → List ℕ → Type 0
TellsAll content held name = (path : List ℕ) → Asks held (normal name) path → content path ≡ known (held.bytes path)

-- the source tells the bytes of the file of stubs, if there is one
abbrev pub TellsStubs : Content → Option (List ℕ) → Type 0
TellsStubs content None = ⊤
TellsStubs content (Some name) = (bytes : List ℕ) × (content (normal name) ≡ known (Some bytes))

-- what those names hold is within the limit of a file
abbrev pub AreShort : Held → List ℕ → Type 0
AreShort held name = (path bytes : List ℕ) → Asks held (normal name) path → held.bytes path ≡ Some bytes → length bytes ≤ FILE_LIMIT

-- as is the file of stubs, if there is one
abbrev pub StubsAreShort : Content → Option (List ℕ) → Type 0
StubsAreShort content None = ⊤
StubsAreShort content (Some name) = (bytes : List ℕ) → content (normal name) ≡ known (Some bytes) → length bytes ≤ FILE_LIMIT

-- the source tells of each name that the program of the file of this name asks for, of which at most 257 are files and at most 256 are
-- missing, and of the file of stubs, if there is one, and it is this one; the rules on functions are kept file by file
pub record HoldsProgram (content : Content) (name : List ℕ) (stubs : Option (List ℕ)) (program : PlainProgram) : Type 0 where
  pub held : Held
  pub main : held.main ≡ normal name
  pub told : TellsAll content held name
  pub told_stubs : TellsStubs content stubs
  pub functions : List PlainFunction
  pub has_stubs : HasStubs content stubs functions
  pub is_program : IsProgramInOrder held (normal name) functions program
  pub few : length is_program.is_program.files ≤ PLACE_LIMIT + 1
  pub missed : List (List ℕ)
  pub are_missed : AreMissed held (normal name) missed
  pub few_missed : length missed ≤ PLACE_LIMIT
  pub rules : KeepFunctionRules is_program.is_program.files (stubs_for is_program.is_program.files functions)
