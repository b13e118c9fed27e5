-- What status 0 means, where the source tells of all names that are read: the headline.
use Rattle.std.specs.Prelude.{◌≡◌, ℕ, List, Contains, ⊤}
use Rattle.io_edge.specs.Told.{Content}
use Rattle.script_meaning.specs.Programs.{PlainProgram}
use Rattle.script_meaning.specs.Runs.{Ended}
use Rattle.page_model.specs.Valid.{Valid}
use Rattle.page_decision.specs.declared.goal.Goal.{Goal}
use Rattle.script_decision.specs.Answers.{RunsAreGood}
use Rattle.script_decision.specs.PolicyAnswers.{RunsFit}
use Rattle.program_loader.specs.Told.{IsLoaded}
use Rattle.script_maker.specs.Made.{IsSize}
use Rattle.site_check.specs.Listed.{names_in}
use Rattle.phpsa_texts.specs.declared.exit.Exit.{Exit}
use Rattle.phpsa_texts.specs.declared.exit.Exit.TheVariants.{Done}
use Rattle.phpsa_tasks.specs.Tasks.{Task, script_check, page_check, script_making, made_check, script_run, grammar_making, list_check, script_match, help_telling, version_telling, usage, AsksFor}
use Rattle.phpsa_tasks.specs.Replies.{outcome_for}
use Rattle.phpsa_tasks.specs.Subjects.{Subject, Holds}
use Rattle.phpsa_tasks.specs.Call.{Call}

-- of a program, that its runs print good pages, which are valid ones unless nesting is asked for; of a page, that it is valid; of a number
-- of functions, that a script may have so many; of a run, that it comes to its end; of a program and a pattern, that its runs print pages
-- that fit; of a list, that each of its names has a program whose
-- runs do; and never where nothing is done. Where stubs are given, the program is the one with their functions, and its runs are those in
-- which these stand for the host's.
abbrev pub Means : Content → (task : Task) → Subject task → Type 0
Means content (script_check file document_type goal limit form choice) subject = RunsAreGood goal subject.table subject.program
Means content (page_check file document_type) subject = Valid subject.table subject.page
Means content (script_making functions) subject = IsSize functions
Means content (made_check functions) subject = RunsAreGood Goal.Valid subject.table subject.program
Means content (script_run file request steps) subject = (outcome_for subject steps).end ≡ Ended
Means content (grammar_making file) subject = ⊤
Means content (list_check file document_type goal limit) subject =
    (name : List ℕ) → Contains (names_in subject.list) name
    → (program : PlainProgram) × IsLoaded content name file.stubs program × RunsAreGood goal subject.table program
Means content (script_match file policy) subject = RunsFit subject.pattern subject.program
Means content help_telling subject = ⊤
Means content version_telling subject = ⊤
Means content usage subject = ⊥

-- After status 0 so it is of the program, the page or the list that the source holds under the file that the words ask for, by the document
-- type that they name, where the names that its definition asks for are told of; of a script of the list whose files are not told, of some
-- program that could be held.
abbrev pub IsSound : Call → Exit → Type 0
IsSound call status = status ≡ Done → (task : Task) (subject : Subject task) → AsksFor call.words task
    → Holds call.files.content task subject → Means call.files.content task subject
