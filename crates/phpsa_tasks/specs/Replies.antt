-- What a task replies: a status, and a text on `out`; and what it leaves there where a run does not come to its end, with a text on `err`.
use Rattle.std.specs.Prelude.{◌≡◌, ◌<◌, ◌⊎◌, ℕ, Bool, true, false, List, [], length, ⊤}
use Rattle.text_base.specs.declared.numbers.Nt as nt
use Rattle.cfg_grammar.specs.declared.production.Production.{Production}
use Rattle.derivations.specs.Text.{grammar_text}
use Rattle.script_meaning.specs.Programs.{PlainProgram}
use Rattle.script_meaning.specs.Runs as runs
use Rattle.script_meaning.specs.Meaning.{Outcome, meaning}
use Rattle.loose_grammar.specs.Pages.{DerivePages}
use Rattle.loose_grammar.specs.Refusals.{HasLargeImage}
use Rattle.loose_grammar.specs.declared.refusal.TheConstants.{ITEM_LIMIT}
use Rattle.dtd_model.specs.Table.{Table}
use Rattle.page_model.specs.Valid.{Valid}
use Rattle.page_decision.specs.declared.goal.Goal.{Goal}
use Rattle.program_files.specs.Source.{SourceCall}
use Rattle.script_decision.specs.declared.shown.ShownAnswer.{ShownAnswer}
use Rattle.script_maker.specs.Made.{made, IsSize}
use Rattle.site_check.specs.declared.line.Line.{Line}
use Rattle.site_check.specs.Listed.{names_in}
use Rattle.site_check.specs.Report.{report}
use Rattle.phpsa_texts.specs.declared.exit.Exit.{Exit}
use Rattle.phpsa_texts.specs.declared.exit.Exit.TheVariants.{Done, Undecided}
use Rattle.phpsa_texts.specs.declared.exit.Exit.TheVariants as exit
use Rattle.phpsa_texts.specs.declared.answers.PassedCount.TheVariants as passed
use Rattle.phpsa_texts.specs.Statuses.{judgment_status, fault_status, site_status}
use Rattle.phpsa_texts.specs.Texts.{passed_text, summary_text, judgment_text, fault_text, spent_text, deep_text, help_text, version_text}
use Rattle.command_words.specs.declared.values.TheConstants.{PAIR_LIMIT}
use Rattle.phpsa_tasks.specs.Tasks.{Task, script_check, page_check, script_making, made_check, script_run, grammar_making, list_check, script_match, help_telling, version_telling, usage}
use Rattle.phpsa_tasks.specs.Subjects.{ProgramFor, Subject, Finds}
use Rattle.phpsa_tasks.specs.ScriptAnswers.{conclusion_of, answer_status, IsAnswer, IsCheckReply}
use Rattle.script_decision.specs.declared.policy_answer.PolicyAnswer.{PolicyAnswer}
use Rattle.phpsa_tasks.specs.PolicyAnswers.{match_status, match_text, IsMatch}
use Rattle.phpsa_tasks.specs.Sites.{AreLinesOf}

-- whether a page is valid
abbrev pub IsJudged : Table → List ℕ → Bool → Type 0
IsJudged table page true = Valid table page
IsJudged table page false = Valid table page → ⊥

-- what a run of a program comes to
abbrev pub outcome_for : ProgramFor → ℕ → Outcome
outcome_for subject steps = meaning subject.program subject.request steps

-- the status of a run by its end
abbrev pub end_status : runs.End → Exit
end_status runs.Ended = Done
end_status (runs.Faulted fault) = fault_status fault
end_status runs.Spent = exit.Spent
end_status runs.Deep = exit.Deep

-- what is told on `err` of a run that was allowed so many units, by its end; nothing where it came to the end of the script
abbrev pub end_text : ℕ → runs.End → List ℕ
end_text steps runs.Ended = []
end_text steps (runs.Faulted fault) = fault_text fault
end_text steps runs.Spent = spent_text steps
end_text steps runs.Deep = deep_text

-- a run does not come to the end of the script
abbrev pub IsEarly : runs.End → Type 0
IsEarly runs.Ended = ⊥
IsEarly other = ⊤

-- the text is that of productions that derive exactly the loose pages of a program
abbrev pub IsGrammarText : PlainProgram → List ℕ → Type 0
IsGrammarText program text = (productions : List Production) × (start : nt.Nt) × DerivePages program productions start
    × (text ≡ grammar_text start.0 productions)

-- the image of an operation of a program has so many items, over the limit
abbrev pub HasManyItems : PlainProgram → ℕ → Type 0
HasManyItems program count = (ITEM_LIMIT < count) × HasLargeImage program count

-- the grammar of a program is written, or a count is told that was passed
abbrev pub IsGrammarReply : PlainProgram → Exit → List ℕ → Type 0
IsGrammarReply program status text =
    (IsGrammarText program text × (status ≡ Done))
    ⊎ ((count : ℕ) × HasManyItems program count × (status ≡ Undecided) × (text ≡ passed_text (passed.Items count)))

-- what each task replies of what it speaks of: a run, where it came to its end; of a list, by what came of the source while its scripts
-- were read; and nothing where nothing is asked for
abbrev pub IsReplyOf : SourceCall → (task : Task) → Subject task → Exit → List ℕ → Type 0
IsReplyOf files (script_check file document_type goal limit form choice) subject status text =
    IsCheckReply choice goal subject.table subject.program limit form status text
IsReplyOf files (page_check file document_type) subject status text =
    (valid : Bool) × IsJudged subject.table subject.page valid × (status ≡ judgment_status valid) × (text ≡ judgment_text valid)
IsReplyOf files (script_making functions) subject status text = IsSize functions × (status ≡ Done) × (text ≡ made functions)
IsReplyOf files (made_check functions) subject status text =
    (answer : ShownAnswer) × IsAnswer Goal.Valid subject.table subject.program PAIR_LIMIT answer × (status ≡ answer_status answer)
    × (text ≡ summary_text functions (length (made functions)) (conclusion_of answer))
IsReplyOf files (script_run file request steps) subject status text =
    ((outcome_for subject steps).end ≡ runs.Ended) × (status ≡ Done) × (text ≡ (outcome_for subject steps).printed)
IsReplyOf files (grammar_making file) subject status text = IsGrammarReply subject status text
IsReplyOf files (list_check file document_type goal limit) subject status text =
    (lines : List Line) × AreLinesOf files file goal limit subject lines × (status ≡ site_status lines)
    × (text ≡ report (names_in subject.list) lines)
IsReplyOf files (script_match file policy) subject status text =
    (answer : PolicyAnswer) × IsMatch subject.pattern subject.program answer × (status ≡ match_status answer) × (text ≡ match_text answer)
IsReplyOf files help_telling subject status text = (status ≡ Done) × (text ≡ help_text)
IsReplyOf files version_telling subject status text = (status ≡ Done) × (text ≡ version_text)
IsReplyOf files usage subject status text = ⊥

-- what a run leaves that does not come to the end of the script: its status, what it printed, and the text on `err`
abbrev pub IsHaltOf : (task : Task) → Subject task → Exit → List ℕ → List ℕ → Type 0
IsHaltOf (script_run file request steps) subject status printed text =
    IsEarly (outcome_for subject steps).end × (status ≡ end_status (outcome_for subject steps).end)
    × (printed ≡ (outcome_for subject steps).printed) × (text ≡ end_text steps (outcome_for subject steps).end)
IsHaltOf task subject status printed text = ⊥

-- the reply to a task
pub record Replies (files : SourceCall) (task : Task) (status : Exit) (text : List ℕ) : Type 0 where
  pub subject : Subject task
  pub found : Finds files.content task subject
  pub says : IsReplyOf files task subject status text

-- a task that leaves this
pub record Halts (files : SourceCall) (task : Task) (status : Exit) (printed text : List ℕ) : Type 0 where
  pub subject : Subject task
  pub found : Finds files.content task subject
  pub says : IsHaltOf task subject status printed text
