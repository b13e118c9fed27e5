-- What the counts of the source and of the outputs say after a call.
use Rattle.std.specs.Prelude.{◌≡◌, ◌⊎◌, ◌+◌, ℕ, List, [], ◌∷◌, length, Option, None, Some, Contains, ⊤}
use Rattle.io_edge.specs.Counts.{one_more}
use Rattle.io_edge.specs.Names.{normal}
use Rattle.io_edge.specs.Told.{Content}
use Rattle.program_rules.specs.Files.{Held}
use Rattle.program_rules.specs.Programs.{ReadFile, AreRead, AreMissed}
use Rattle.program_files.specs.Source.{SourceCall, so_many_more, RisesBy}
use Rattle.program_files.specs.Stubs.{stub_reads}
use Rattle.program_loader.specs.Told.{AreAnswered}
use Rattle.document_types.specs.DocumentTypes.{IsBuiltIn}
use Rattle.phpsa_texts.specs.declared.exit.Exit.{Exit}
use Rattle.phpsa_texts.specs.declared.exit.Exit.TheVariants.{No, Undecided, Script, Missing, ReadFault, WriteFault, Input, Memory, Site}
use Rattle.phpsa_tasks.specs.Tasks.{ScriptFile, Task, script_check, page_check, script_making, made_check, script_run, grammar_making, list_check, script_match, help_telling, version_telling, usage, AsksFor}
use Rattle.phpsa_tasks.specs.Call.{Output, Call, IsUnfailed}

-- what the program of the file of a name asks for, each of which was answered: these are its files, and these the names that are not there
pub record AsksForNames (content : Content) (name : List ℕ) : Type 0 where
  pub held : Held
  pub main : held.main ≡ normal name
  pub answered : AreAnswered content held name
  pub own : List ReadFile
  pub read : AreRead held (normal name) own
  pub missed : List (List ℕ)
  pub are_missed : AreMissed held (normal name) missed

-- each of them was asked for once, and so was the file of stubs, if there is one
pub record ReadsItsFiles (files : SourceCall) (file : ScriptFile) : Type 0 where
  pub asks : AsksForNames files.content file.name
  pub counted : files.reads' ≡ so_many_more (length asks.own + length asks.missed + stub_reads file.stubs) files.reads

-- behind them so many misses are counted: one more for each name that is not there
pub record MissesItsNames (files : SourceCall) (name : List ℕ) (misses : ℕ) : Type 0 where
  pub asks : AsksForNames files.content name
  pub counted : RisesBy (length asks.missed) files.misses misses

-- a call from where so many misses are counted
abbrev pub from_misses : ℕ → SourceCall → SourceCall
from_misses misses files = record files { misses = misses }

-- and behind them the file of a request, if there is one, or that of a pattern
abbrev pub ReadsForRun : SourceCall → ScriptFile → Option (List ℕ) → Type 0
ReadsForRun files file None = ReadsItsFiles files file
ReadsForRun files file (Some name) =
    (between : ℕ) × ReadsItsFiles (record files { reads' = between }) file × (files.reads' ≡ one_more between)

-- no name was asked for
abbrev pub ReadsNothing : SourceCall → Type 0
ReadsNothing files = files.reads' ≡ files.reads

-- memory was wanting, or the text for that could not be written
abbrev pub IsWanting : Exit → Type 0
IsWanting status = Contains (WriteFault ∷ Memory ∷ []) status

-- the statuses of which those of a program that is not loaded are some, and for which nothing is said of the count here: that of a request
-- that is refused stands with its cause, and the last two come where a text could not be made or written
abbrev pub uncounted : List Exit
uncounted = Script ∷ Missing ∷ ReadFault ∷ Input ∷ WriteFault ∷ Memory ∷ []

-- By a built-in definition, or where none is asked for, each name that a task needs is asked for once, but for the statuses above: those of
-- a program, with those of its stubs and of a request or a pattern; or the page, unless memory was wanting before. The other tasks read
-- nothing; of a list, whose scripts may share files, nothing is said here.
abbrev pub ReadsFor : Task → SourceCall → Exit → Type 0
ReadsFor (script_check file document_type goal limit form choice) files status =
    IsBuiltIn document_type → Contains uncounted status ⊎ ReadsItsFiles files file
ReadsFor (page_check file document_type) files status =
    IsBuiltIn document_type → (files.reads' ≡ one_more files.reads) ⊎ (ReadsNothing files × IsWanting status)
ReadsFor (script_making functions) files status = ReadsNothing files
ReadsFor (made_check functions) files status = ReadsNothing files
ReadsFor (script_run file request steps) files status = Contains uncounted status ⊎ ReadsForRun files file request
ReadsFor (grammar_making file) files status = Contains uncounted status ⊎ ReadsItsFiles files file
ReadsFor (list_check file document_type goal limit) files status = ⊤
ReadsFor (script_match file policy) files status = Contains uncounted status ⊎ ReadsForRun files file (Some policy)
ReadsFor help_telling files status = ReadsNothing files
ReadsFor version_telling files status = ReadsNothing files
ReadsFor usage files status = ReadsNothing files

-- a fault of the source is told by the status, but where its text itself could not be made or written
abbrev pub TellsFaults : SourceCall → Exit → Type 0
TellsFaults files status = Contains (ReadFault ∷ WriteFault ∷ Memory ∷ []) status ⊎ (files.faults' ≡ files.faults)

-- and those of a list may be told by its lines, which are then not all a yes
abbrev pub FaultsAreTold : Task → SourceCall → Exit → Type 0
FaultsAreTold (list_check file document_type goal limit) files status =
    Contains (No ∷ Undecided ∷ Site ∷ []) status ⊎ TellsFaults files status
FaultsAreTold task files status = TellsFaults files status

-- a fault of an output is told by its status alone
abbrev pub TellsFault : Output → Exit → Type 0
TellsFault output status = (status ≡ WriteFault) ⊎ IsUnfailed output

-- what is read, and which faults are told
pub record IsCounted (call : Call) (status : Exit) : Type 0 where
  pub read : (task : Task) → AsksFor call.words task → ReadsFor task call.files status
  pub out : TellsFault call.out status
  pub err : TellsFault call.err status
  pub files : (task : Task) → AsksFor call.words task → FaultsAreTold task call.files status
