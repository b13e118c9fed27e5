-- What deciding the scripts of a list comes to: a line for each, which tells what `check` says of that script alone.
use Rattle.std.specs.Prelude.{◌≡◌, ◌⊎◌, ◌-◌, ℕ, List, length, take, drop}
use Rattle.io_edge.specs.Told.{Content}
use Rattle.script_meaning.specs.Programs.{PlainProgram}
use Rattle.program_files.specs.Source.{SourceCall}
use Rattle.dtd_model.specs.Table.{Table}
use Rattle.page_decision.specs.declared.goal.Goal.{Goal}
use Rattle.script_decision.specs.Decision.{HasLargeModels}
use Rattle.script_decision.specs.declared.shown.ShownAnswer.{ShownAnswer}
use Rattle.site_check.specs.declared.line.Line.{Line}
use Rattle.site_check.specs.declared.line.Line.TheVariants.{Yes, No, Pairs, Tags, Items, Refused}
use Rattle.site_check.specs.Site.{moment, AreAnswered}
use Rattle.site_check.specs.Listed.{names_in}
use Rattle.phpsa_texts.specs.declared.exit.Exit.{Exit}
use Rattle.phpsa_texts.specs.declared.exit.Exit.TheVariants.{Dtd, Memory}
use Rattle.phpsa_texts.specs.Statuses.{status_of}
use Rattle.phpsa_texts.specs.Texts.{states_text}
use Rattle.phpsa_tasks.specs.Tasks.{ScriptFile, listed}
use Rattle.phpsa_tasks.specs.Subjects.{ListBy, IsLoadedInside}
use Rattle.phpsa_tasks.specs.ScriptAnswers.{IsAnswer}
use Rattle.phpsa_tasks.specs.Counted.{MissesItsNames}
use Rattle.phpsa_tasks.specs.Causes.{RefusesProgram, RefusesLongText}

-- the line that tells an answer: of a page that is not good its length alone
abbrev pub line_of : ShownAnswer → Line
line_of ShownAnswer.Yes = Yes
line_of (ShownAnswer.No shown) = No shown.length
line_of (ShownAnswer.Pairs count height) = Pairs count height
line_of (ShownAnswer.Tags count height) = Tags count height
line_of (ShownAnswer.Items count) = Items count

-- a text of `err` without the seven bytes `phpsa: ` before it and the line end behind it
abbrev pub inside : List ℕ → List ℕ
inside text = take (length text - 8) (drop 7 text)

-- the program of a file is loaded, the last that was asked for, and the content models of a definition pass a limit
abbrev pub RefusesModels : SourceCall → ScriptFile → Table → Exit → List ℕ → Type 0
RefusesModels files file table status text =
    (program : PlainProgram) × IsLoadedInside files.content file program × MissesItsNames files file.name files.misses'
    × ((count : ℕ) × HasLargeModels table count × (status ≡ Dtd) × (text ≡ states_text count))

-- a script is refused where the definition is read: its program is not loaded; or it is, and has a long text, or the content models pass a
-- limit
abbrev pub RefusesByTable : SourceCall → ScriptFile → Table → Exit → List ℕ → Type 0
RefusesByTable files file table status text =
    RefusesProgram files file status text ⊎ (RefusesLongText files file status text ⊎ RefusesModels files file table status text)

-- The line may be answered for the file of a name: by what is told behind its call it tells the answer of the program that the name has, or
-- why the script is refused, by the status and the text of `check`; want of memory is no line.
pub data IsLineFor (table : Table) (goal : Goal) (limit : ℕ) (content : Content) (file : ScriptFile) (line : Line) : Type 0 where
  tells_answer : (program : PlainProgram) (answer : ShownAnswer) → IsLoadedInside content file program
      → IsAnswer goal table program limit answer → line ≡ line_of answer → IsLineFor table goal limit content file line
  tells_refusal : (files : SourceCall) (status : Exit) (text : List ℕ) → files.content ≡ content → RefusesByTable files file table status text
      → (status ≡ Memory → ⊥) → line ≡ Refused (status_of status) (inside text) → IsLineFor table goal limit content file line

-- the lines for the names of a list, each with the root that is given or else its own and with the stubs that are given, and each of its own
-- call, one behind another, up to the end of the whole call: whatever was told before the first of them, no fault and no miss was counted
-- before it
abbrev pub AreLinesOf : SourceCall → ScriptFile → Goal → ℕ → ListBy → List Line → Type 0
AreLinesOf files file goal limit subject lines =
    (before : Content) × AreAnswered (λ content name line. IsLineFor subject.table goal limit content (listed file name) line)
    (moment before files.faults files.misses) (moment files.content files.faults' files.misses') (names_in subject.list) lines
