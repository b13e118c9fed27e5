-- What an answer says of runs follows from what it says of loose pages.
use Rattle.std.proofs.Common.{ℕ, List}
use Rattle.std.specs.Prelude.{Result, Ok, Err, IfOk}
use Rattle.text_base.specs.declared.letter.Letter.{Letter}
use Rattle.text_base.specs.declared.memory.NoMemory.{NoMemory}
use Rattle.script_meaning.specs.Programs.{PlainProgram}
use Rattle.program_rules.specs.Lawful.{IsLawful}
use Rattle.flow_runs.specs.Texts.{TextsFit}
use Rattle.dtd_model.specs.Table.{Table}
use Rattle.page_decision.specs.declared.goal.Goal.{Goal}
use Rattle.script_decision.specs.declared.answer.Answer.{Answer}
use Rattle.script_decision.specs.Answers.{EachIsGood, IsAnswerBy, RunsAreGood, SaysOfRuns}

-- where each loose page is good, so are runs
abbrev pub RunsFollow : Type 0
RunsFollow = (goal : Goal) (table : Table) (program : PlainProgram) → IsLawful program → TextsFit program → EachIsGood goal table program → RunsAreGood goal table program

module _ (law : RunsFollow) {S : Type 0} (first : S) (steps : S → ℕ → S → List Letter → Type 0) (ends : S → List Letter → Type 0) (goal : Goal) (table : Table) (program : PlainProgram) (lawful : IsLawful program) (limit : ℕ) where
  says : (answer : Answer) → TextsFit program → IsAnswerBy first steps ends goal table program limit answer → SaysOfRuns goal table program answer
  says Answer.Yes fit each = law goal table program lawful fit each
  says (Answer.No derivation) fit is = tt
  says (Answer.Pairs count height) fit is = tt
  says (Answer.Tags count height) fit is = tt
  says (Answer.Items count) fit is = tt

  pub result_says : TextsFit program → (result : Result Answer NoMemory) → IfOk result (IsAnswerBy first steps ends goal table program limit)
      → IfOk result (SaysOfRuns goal table program)
  result_says fit (Ok answer) is = says answer fit is
  result_says fit (Err e) is = tt
