-- What `run` prints where `check` has said yes: both commands together.
use Rattle.std.specs.Prelude.{◌≡◌, ℕ, List, Option}
use Rattle.page_decision.specs.declared.goal.Goal.{Goal}
use Rattle.page_decision.specs.Goals.{IsGood}
use Rattle.document_types.specs.DocumentTypes.{NamedType}
use Rattle.phpsa_texts.specs.declared.exit.Exit.TheVariants.{Done}
use Rattle.phpsa_texts.specs.declared.answers.AnswerForm.{AnswerForm}
use Rattle.phpsa_tasks.specs.declared.choice.PageChoice.{PageChoice}
use Rattle.phpsa_tasks.specs.Tasks.{ScriptFile, script_check, script_run, AsksFor}
use Rattle.phpsa_tasks.specs.Call.{Call, Gains}
use Rattle.phpsa_tasks.specs.Subjects.{ProgramBy, ProgramFor, Holds}
use Rattle.phpsa_tasks.specs.Replies.{outcome_for}
use Rattle.phpsa_tasks.specs.Keeps.{Keeps}

-- a call of `check` on a program that its source holds has ended with status 0
pub record IsChecked (call : Call) (file : ScriptFile) (document_type : NamedType) (goal : Goal) (limit : ℕ) (form : AnswerForm)
    (choice : PageChoice) (subject : ProgramBy) : Type 0 where
  pub keeps : Keeps call Done
  pub asked : AsksFor call.words (script_check file document_type goal limit form choice)
  pub held : Holds call.files.content (script_check file document_type goal limit form choice) subject

-- and a call of `run` on a program, for a request that its source holds
pub record HasRun (call : Call) (file : ScriptFile) (request : Option (List ℕ)) (steps : ℕ) (subject : ProgramFor) : Type 0 where
  pub keeps : Keeps call Done
  pub asked : AsksFor call.words (script_run file request steps)
  pub held : Holds call.files.content (script_run file request steps) subject

-- so much was printed, it is what the meaning of the program prints for the request, and it is good
pub record PrintsGoodPage (call : Call) (goal : Goal) (of_check : ProgramBy) (of_run : ProgramFor) (steps : ℕ) : Type 0 where
  pub gains : Gains call.out (outcome_for of_run steps).printed
  pub good : IsGood goal of_check.table (outcome_for of_run steps).printed

-- where one program is checked, and run with status 0 for any request and number of units, a good page stands on `out`: a valid one, unless
-- nesting was asked for
abbrev pub CheckedRunsPrintGoodPages : Type 0
CheckedRunsPrintGoodPages =
    (checked ran : Call) (file other : ScriptFile) (document_type : NamedType) (goal : Goal) (limit : ℕ) (form : AnswerForm)
    (choice : PageChoice) (request : Option (List ℕ)) (steps : ℕ)
    (of_check : ProgramBy) (of_run : ProgramFor) → of_check.program ≡ of_run.program
    → IsChecked checked file document_type goal limit form choice of_check → HasRun ran other request steps of_run
    → PrintsGoodPage ran goal of_check of_run steps
