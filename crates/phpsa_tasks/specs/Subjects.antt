-- What a task speaks of: a program, a page or a list, that stands under the name of a file, and the table of a definition.
use Rattle.std.specs.Prelude.{◌⊎◌, ℕ, List, Contains, Option, None, Some, codes, ⊤}
use Rattle.io_edge.specs.Names.{normal}
use Rattle.io_edge.specs.Told.{Content, Tells}
use Rattle.script_meaning.specs.Programs.{PlainProgram}
use Rattle.script_meaning.specs.Requests.{PlainRequest, Admitted}
use Rattle.program_rules.specs.Includes.{AllStayInside}
use Rattle.program_loader.specs.Told.{IsLoaded, HoldsProgram, AreShort, StubsAreShort}
use Rattle.dtd_model.specs.Table.{Table}
use Rattle.page_policy.specs.Patterns.{Pattern}
use Rattle.document_types.specs.OneFile.{file_alone}
use Rattle.document_types.specs.DocumentTypes.{NamedType, strict_type, HasTable, NamesAreTold, NamesAreShort, IsTooLarge}
use Rattle.script_decision.specs.Decision.{HasLargeModels}
use Rattle.script_maker.specs.Made.{made, IsSize}
use Rattle.site_check.specs.Listed.{names_in, IsList}
use Rattle.phpsa_tasks.specs.Files.{HoldsShortFile}
use Rattle.phpsa_tasks.specs.Requests.{FindsRequest, HoldsRequest}
use Rattle.phpsa_tasks.specs.Policies.{FindsPattern, HoldsPattern}
use Rattle.phpsa_tasks.specs.Tasks.{ScriptFile, script_file, listed, root_of, Task, script_check, page_check, script_making, made_check, script_run, grammar_making, list_check, script_match, help_telling, version_telling, usage}

-- a program, and the table of the definition that its pages are held against
pub record ProgramBy : Type 0 where
  pub program : PlainProgram
  pub table : Table

-- a page, and the table of the definition that it is held against
pub record PageBy : Type 0 where
  pub page : List ℕ
  pub table : Table

-- a program, and the request that it is run for
pub record ProgramFor : Type 0 where
  pub program : PlainProgram
  pub request : PlainRequest

-- the bytes of a list, and the table of the definition that the pages of its scripts are held against
pub record ListBy : Type 0 where
  pub list : List ℕ
  pub table : Table

-- a program, and the pattern that its pages are held against
pub record ProgramAgainst : Type 0 where
  pub program : PlainProgram
  pub pattern : Pattern

-- the name under which a generated script is loaded
abbrev pub made_name : List ℕ
made_name = codes "made.php"

-- it has no other root than the folder of the call, and no stubs
abbrev pub made_file : ScriptFile
made_file = script_file made_name None None

-- a source that has a file of this name alone, with this text
abbrev pub only_script : List ℕ → Content
only_script = file_alone made_name

-- a source that has the generated script of so many functions alone
abbrev pub only_made : ℕ → Content
only_made functions = only_script (made functions)

-- what a task speaks of; those that neither read a file nor decide a script speak of none
abbrev pub Subject : Task → Type 0
Subject (script_check file document_type goal limit form choice) = ProgramBy
Subject (page_check file document_type) = PageBy
Subject (script_making functions) = ⊤
Subject (made_check functions) = ProgramBy
Subject (script_run file request steps) = ProgramFor
Subject (grammar_making file) = PlainProgram
Subject (list_check file document_type goal limit) = ListBy
Subject (script_match file policy) = ProgramAgainst
Subject help_telling = ⊤
Subject version_telling = ⊤
Subject usage = ⊤

-- the program of a file is loaded with its stubs, whatever the source tells, and none of its includes leads out of its root
pub record IsLoadedInside (content : Content) (file : ScriptFile) (program : PlainProgram) : Type 0 where
  pub loaded : IsLoaded content file.name file.stubs program
  pub inside : AllStayInside (root_of file) loaded.held (normal file.name)

-- what a task finds, whatever the source tells: under the file's name its program, with all that it includes, or its bytes, and a table of
-- the document type, or the request
-- that the program is run for, which is admitted; of a generated script, that it can be made, and its program, by the built-in definition;
-- or the bytes of a list, and a table; or its program, and the pattern that its pages are held against
abbrev pub Finds : Content → (task : Task) → Subject task → Type 0
Finds content (script_check file document_type goal limit form choice) subject =
    IsLoadedInside content file subject.program × HasTable content document_type subject.table
Finds content (page_check file document_type) subject =
    Tells (content file) (Some subject.page) × HasTable content document_type subject.table
Finds content (script_making functions) subject = ⊤
Finds content (made_check functions) subject =
    IsSize functions × IsLoadedInside (only_made functions) made_file subject.program × HasTable (only_made functions) strict_type subject.table
Finds content (script_run file request steps) subject =
    IsLoadedInside content file subject.program × FindsRequest content request subject.request × Admitted subject.request
Finds content (grammar_making file) subject = IsLoadedInside content file subject
Finds content (list_check file document_type goal limit) subject =
    Tells (content file.name) (Some subject.list) × HasTable content document_type subject.table × IsList subject.list
Finds content (script_match file policy) subject =
    IsLoadedInside content file subject.program × FindsPattern content policy subject.pattern
Finds content help_telling subject = ⊤
Finds content version_telling subject = ⊤
Finds content usage subject = ⊤

-- the source tells of each name that the program asks for and of the stubs, and each is within the limit of a file
pub record HoldsShortProgram (content : Content) (file : ScriptFile) (program : PlainProgram) : Type 0 where
  pub holds : HoldsProgram content file.name file.stubs program
  pub short : AreShort holds.held file.name
  pub short_stubs : StubsAreShort content file.stubs

-- and none of its includes leads out of its root
pub record HoldsProgramInside (content : Content) (file : ScriptFile) (program : PlainProgram) : Type 0 where
  pub held : HoldsShortProgram content file program
  pub inside : AllStayInside (root_of file) held.holds.held (normal file.name)

-- the document type has this table, and the source tells of each name that its definition asks for
pub record HoldsTable (content : Content) (document_type : NamedType) (table : Table) : Type 0 where
  pub has : HasTable content document_type table
  pub told : NamesAreTold content document_type

-- what the source tells all of; of a generated script, what it is
abbrev pub Holds : Content → (task : Task) → Subject task → Type 0
Holds content (script_check file document_type goal limit form choice) subject =
    HoldsShortProgram content file subject.program × HoldsTable content document_type subject.table
Holds content (page_check file document_type) subject =
    HoldsShortFile content file subject.page × HoldsTable content document_type subject.table
Holds content (script_making functions) subject = ⊤
Holds content (made_check functions) subject =
    IsSize functions × HoldsShortProgram (only_made functions) made_file subject.program
    × HoldsTable (only_made functions) strict_type subject.table
Holds content (script_run file request steps) subject =
    HoldsShortProgram content file subject.program × HoldsRequest content request subject.request
Holds content (grammar_making file) subject = HoldsShortProgram content file subject
Holds content (list_check file document_type goal limit) subject =
    HoldsShortFile content file.name subject.list × HoldsTable content document_type subject.table
Holds content (script_match file policy) subject =
    HoldsShortProgram content file subject.program × HoldsPattern content policy subject.pattern
Holds content help_telling subject = ⊤
Holds content version_telling subject = ⊤
Holds content usage subject = ⊤

-- the names that a definition asks for are within the limit of a file, and the definition and its content models within theirs
pub record IsSmall (content : Content) (document_type : NamedType) (table : Table) : Type 0 where
  pub short : NamesAreShort content document_type
  pub small : (count : ℕ) → IsTooLarge content document_type count → ⊥
  pub few : (count : ℕ) → HasLargeModels table count → ⊥

-- under each of these names of a list the source tells of each name that a program asks for, and these lie in its root
abbrev pub HoldScripts : Content → ScriptFile → List (List ℕ) → Type 0
HoldScripts content list names =
    (name : List ℕ) → Contains names name → (program : PlainProgram) × HoldsProgramInside content (listed list name) program

-- the definition of a task is so, its program stays in its root, and of a list each name holds a program that does
abbrev pub IsWithin : Content → (task : Task) → Subject task → Type 0
IsWithin content (script_check file document_type goal limit form choice) subject =
    HoldsProgramInside content file subject.program × IsSmall content document_type subject.table
IsWithin content (page_check file document_type) subject = IsSmall content document_type subject.table
IsWithin content (script_making functions) subject = ⊤
IsWithin content (made_check functions) subject = IsSmall (only_made functions) strict_type subject.table
IsWithin content (script_run file request steps) subject = HoldsProgramInside content file subject.program
IsWithin content (grammar_making file) subject = HoldsProgramInside content file subject
IsWithin content (list_check file document_type goal limit) subject =
    IsSmall content document_type subject.table × HoldScripts content file (names_in subject.list)
IsWithin content (script_match file policy) subject = HoldsProgramInside content file subject.program
IsWithin content help_telling subject = ⊤
IsWithin content version_telling subject = ⊤
IsWithin content usage subject = ⊤

-- under the file's name nothing is found, or no request, or no pattern, under its own; or there is no generated script of this size
abbrev pub LacksFile : Content → Task → Type 0
LacksFile content (script_check file document_type goal limit form choice) = (program : PlainProgram) → IsLoadedInside content file program → ⊥
LacksFile content (page_check file document_type) = (page : List ℕ) → Tells (content file) (Some page) → ⊥
LacksFile content (script_making functions) = ⊥
LacksFile content (made_check functions) = IsSize functions → ⊥
LacksFile content (script_run file request steps) =
    ((program : PlainProgram) → IsLoadedInside content file program → ⊥) ⊎ ((found : PlainRequest) → FindsRequest content request found → ⊥)
LacksFile content (grammar_making file) = (program : PlainProgram) → IsLoadedInside content file program → ⊥
LacksFile content (list_check file document_type goal limit) = (list : List ℕ) → Tells (content file.name) (Some list) → ⊥
LacksFile content (script_match file policy) =
    ((program : PlainProgram) → IsLoadedInside content file program → ⊥) ⊎ ((found : Pattern) → FindsPattern content policy found → ⊥)
LacksFile content help_telling = ⊥
LacksFile content version_telling = ⊥
LacksFile content usage = ⊥
