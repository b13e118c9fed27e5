-- What the report on the scripts of a list comes to. No public clause cites this.
use Rattle.std.specs.Prelude.{◌≡◌, ℕ, List, Ok, Err, ⊤}
use Rattle.dtd_model.specs.Table.{Table}
use Rattle.page_decision.specs.declared.goal.Goal.{Goal}
use Rattle.site_check.specs.declared.line.Line.{Line}
use Rattle.site_check.specs.declared.line.Line.TheVariants.{Refused}
use Rattle.site_check.specs.Site.{Moment, AreAnswered}
use Rattle.site_check.specs.Report.{report}
use Rattle.phpsa_texts.specs.declared.message.Refusal.{Refusal}
use Rattle.phpsa_texts.specs.declared.exit.Exit.TheVariants as exit
use Rattle.phpsa_texts.specs.Statuses.{status_of, site_status}
use Rattle.phpsa_texts.specs.Texts.{Says}
use Rattle.phpsa_tasks.specs.Tasks.{ScriptFile, listed}
use Rattle.phpsa_tasks.specs.Sites.{inside, IsLineFor}
use Rattle.phpsa_tasks.specs.declared.reply.Reply.TheVariants as reply
use Rattle.phpsa_tasks.specs.Results.{TaskResult}

-- the line tells this refusal, which is not want of memory
abbrev pub IsRefusedLine : Refusal → Line → Type 0
IsRefusedLine (Refusal.Told message) line =
    (line ≡ Refused (status_of message.status) (inside message.text)) × (message.status ≡ exit.Memory → ⊥)
IsRefusedLine Refusal.Memory line = ⊥

-- what the report on the scripts of these names comes to, each with what is given for their list, from one moment to another: lines that are
-- answers for them, or want of memory
abbrev pub HasReport : ScriptFile → Table → Goal → ℕ → (before now : Moment) → List (List ℕ) → TaskResult → Type 0
HasReport list table goal limit before now names (Ok (reply.Text message)) =
    (lines : List Line) × AreAnswered (λ content name line. IsLineFor table goal limit content (listed list name) line) before now names lines
    × Says message (site_status lines) (report names lines)
HasReport list table goal limit before now names (Ok other) = ⊥
HasReport list table goal limit before now names (Err (Refusal.Told message)) = ⊥
HasReport list table goal limit before now names (Err Refusal.Memory) = ⊤
