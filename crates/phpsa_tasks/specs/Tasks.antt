-- What is to be done for what words ask for; this project's own.
use Rattle.std.specs.Prelude.{◌≡◌, ℕ, Bool, true, false, List, Option}
use Rattle.io_edge.specs.Names.{root_for}
use Rattle.command_words.specs.Asked.{Asked, help, version, check, run, page, grammar, make, site, match_pattern, Asks, AsksNothing}
use Rattle.document_types.specs.DocumentTypes.{NamedType, named_type}
use Rattle.page_decision.specs.declared.goal.Goal.{Goal}
use Rattle.page_decision.specs.declared.goal.Goal.TheVariants.{Valid, Nested}
use Rattle.phpsa_texts.specs.declared.answers.AnswerForm.{AnswerForm}
use Rattle.phpsa_texts.specs.declared.answers.AnswerForm.TheVariants.{Plain, Json}
use Rattle.phpsa_tasks.specs.declared.choice.PageChoice.{PageChoice}
use Rattle.phpsa_tasks.specs.declared.choice.PageChoice.TheVariants.{First, Shortest}

-- a script, or a list of scripts, by the name of its file, and what is given for it: the folder that is its root, and the file whose
-- functions stand for functions of the host's PHP that the language has not
pub record ScriptFile : Type 0 where
  pub name : List ℕ
  pub root : Option (List ℕ)
  pub stubs : Option (List ℕ)

-- such a file by its parts
abbrev pub script_file : List ℕ → (root stubs : Option (List ℕ)) → ScriptFile
script_file name root stubs = record { name = name; root = root; stubs = stubs }

-- a script of a list, with what is given for the list
abbrev pub listed : ScriptFile → List ℕ → ScriptFile
listed list name = script_file name list.root list.stubs

-- the root that the includes of a script may not leave
abbrev pub root_of : ScriptFile → List ℕ
root_of file = root_for file.root file.name

-- a script is decided by a goal, with a limit on the sums of a nonterminal, and by which of its pages that are not good is shown; a page is
-- judged; a script is made, or made and decided; a
-- script is run, for the request of a file or for one of empty arrays, with so many units; the grammar of the pages of a script is written;
-- each script of a list is decided, with the root and the stubs that stand here beside the list; the pages of a script are held against the
-- pattern of a file; the commands, or the version, are told; or nothing is asked for, and the usage is told
pub data Task : Type 0 where
  script_check : (file : ScriptFile) (document_type : NamedType) (goal : Goal) (limit : ℕ) (form : AnswerForm) (choice : PageChoice) → Task
  page_check : (file : List ℕ) (document_type : NamedType) → Task
  script_making : (functions : ℕ) → Task
  made_check : (functions : ℕ) → Task
  script_run : (file : ScriptFile) (request : Option (List ℕ)) (steps : ℕ) → Task
  grammar_making : (file : ScriptFile) → Task
  list_check : (file : ScriptFile) (document_type : NamedType) (goal : Goal) (limit : ℕ) → Task
  script_match : (file : ScriptFile) (policy : List ℕ) → Task
  help_telling : Task
  version_telling : Task
  usage : Task

-- the form of an answer, by whether JSON is asked for
abbrev pub form_of : Bool → AnswerForm
form_of true = Json
form_of false = Plain

-- the goal, by whether nesting alone is asked for
abbrev pub goal_of : Bool → Goal
goal_of true = Nested
goal_of false = Valid

-- which page is shown, by whether a shortest one is asked for
abbrev pub choice_of : Bool → PageChoice
choice_of true = Shortest
choice_of false = First

-- what is done for what words ask for
abbrev pub task_of : Asked → Task
task_of (check file definition root stubs limit by_nesting as_json is_shortest) =
    script_check (script_file file root stubs) (named_type root definition) (goal_of by_nesting) limit (form_of as_json) (choice_of is_shortest)
task_of (run file root stubs request steps) = script_run (script_file file root stubs) request steps
task_of (page file definition root) = page_check file (named_type root definition)
task_of (grammar file root stubs) = grammar_making (script_file file root stubs)
task_of (make functions true) = made_check functions
task_of (make functions false) = script_making functions
task_of (site file definition root stubs limit by_nesting) =
    list_check (script_file file root stubs) (named_type root definition) (goal_of by_nesting) limit
task_of (match_pattern file policy root stubs) = script_match (script_file file root stubs) policy
task_of help = help_telling
task_of version = version_telling

-- words ask for this to be done
pub data AsksFor (words : List (List ℕ)) (task : Task) : Type 0 where
  asks : (for : Asked) → Asks words for → task ≡ task_of for → AsksFor words task
  asks_nothing : AsksNothing words → task ≡ usage → AsksFor words task
