-- The answer for the program of a script: its status, its text, and what it says.
use Rattle.std.specs.Prelude.{◌≡◌, ℕ, List}
use Rattle.script_meaning.specs.Programs.{PlainProgram}
use Rattle.dtd_model.specs.Table.{Table}
use Rattle.page_decision.specs.declared.goal.Goal.{Goal}
use Rattle.script_decision.specs.declared.shown.ShownAnswer.{ShownAnswer}
use Rattle.script_decision.specs.Shown.{IsShownAnswer, ShownSaysOfRuns}
use Rattle.script_decision.specs.ShortestAnswers.{IsShortestAnswer, SaysOfRuns}
use Rattle.script_decision.specs.declared.shortest_answer.ShortestAnswer.{ShortestAnswer}
use Rattle.script_decision.specs.declared.shortest_answer.ShortestAnswer.TheVariants as short
use Rattle.phpsa_texts.specs.declared.exit.Exit.{Exit}
use Rattle.phpsa_texts.specs.declared.exit.Exit.TheVariants.{Done, No, Undecided}
use Rattle.phpsa_texts.specs.declared.answers.AnswerForm.{AnswerForm}
use Rattle.phpsa_texts.specs.declared.answers.Conclusion.{Conclusion}
use Rattle.phpsa_texts.specs.declared.answers.Conclusion.TheVariants as conclusion
use Rattle.phpsa_texts.specs.declared.answers.PassedCount.TheVariants as passed
use Rattle.phpsa_texts.specs.Statuses.{conclusion_status}
use Rattle.phpsa_texts.specs.Texts.{yes_answer, no_answer, passed_answer}
use Rattle.phpsa_tasks.specs.declared.choice.PageChoice.{PageChoice}
use Rattle.phpsa_tasks.specs.declared.choice.PageChoice.TheVariants.{First, Shortest}

-- how a script is decided by each answer for its program
abbrev pub conclusion_of : ShownAnswer → Conclusion
conclusion_of ShownAnswer.Yes = conclusion.Yes
conclusion_of (ShownAnswer.No shown) = conclusion.No
conclusion_of (ShownAnswer.Pairs count height) = conclusion.Undecided
conclusion_of (ShownAnswer.Tags count height) = conclusion.Undecided
conclusion_of (ShownAnswer.Items count) = conclusion.Undecided

-- the status of an answer
abbrev pub answer_status : ShownAnswer → Exit
answer_status answer = conclusion_status (conclusion_of answer)

-- the text of an answer, in lines or as a JSON object
abbrev pub answer_text : AnswerForm → ShownAnswer → List ℕ
answer_text form ShownAnswer.Yes = yes_answer form
answer_text form (ShownAnswer.No shown) = no_answer form shown.length shown.front
answer_text form (ShownAnswer.Pairs count height) = passed_answer form (passed.Pairs count height)
answer_text form (ShownAnswer.Tags count height) = passed_answer form (passed.Tags count height)
answer_text form (ShownAnswer.Items count) = passed_answer form (passed.Items count)

-- the answer is that of the program, and a yes says of its runs that they are good
abbrev pub IsAnswer : Goal → Table → PlainProgram → ℕ → ShownAnswer → Type 0
IsAnswer goal table program limit answer = IsShownAnswer goal table program limit answer × ShownSaysOfRuns goal table program answer

-- the same, where a shortest page is asked for
abbrev pub shortest_status : ShortestAnswer → Exit
shortest_status short.Yes = Done
shortest_status (short.No shown) = No
shortest_status (short.Pairs count len) = Undecided
shortest_status (short.Tags count len) = Undecided
shortest_status (short.Items count) = Undecided

-- its text: of sums and tags the length within which they were found
abbrev pub shortest_text : AnswerForm → ShortestAnswer → List ℕ
shortest_text form short.Yes = yes_answer form
shortest_text form (short.No shown) = no_answer form shown.length shown.front
shortest_text form (short.Pairs count len) = passed_answer form (passed.ShortPairs count len)
shortest_text form (short.Tags count len) = passed_answer form (passed.ShortTags count len)
shortest_text form (short.Items count) = passed_answer form (passed.Items count)

-- the answer is that of the program: where it is a no, no shorter loose page is bad; and a yes says of its runs that they are good
abbrev pub IsShortest : Goal → Table → PlainProgram → ℕ → ShortestAnswer → Type 0
IsShortest goal table program limit answer = IsShortestAnswer goal table program limit answer × SaysOfRuns goal table program answer

-- what `check` replies of a program, by which of its pages that are not good is shown: the first that is found, or a shortest one
abbrev pub IsCheckReply : PageChoice → Goal → Table → PlainProgram → ℕ → AnswerForm → Exit → List ℕ → Type 0
IsCheckReply First goal table program limit form status text =
    (answer : ShownAnswer) × IsAnswer goal table program limit answer × (status ≡ answer_status answer) × (text ≡ answer_text form answer)
IsCheckReply Shortest goal table program limit form status text =
    (answer : ShortestAnswer) × IsShortest goal table program limit answer × (status ≡ shortest_status answer) × (text ≡ shortest_text form answer)
