-- What judging a page comes to. No public clause cites this.
use Rattle.std.specs.Prelude.{ℕ, Bool, List, Ok, Err, ⊤}
use Rattle.dtd_model.specs.Table.{Table}
use Rattle.script_decision.specs.Decision.{HasLargeModels}
use Rattle.phpsa_texts.specs.declared.exit.Exit.TheVariants.{Dtd}
use Rattle.phpsa_texts.specs.declared.message.Refusal.{Refusal}
use Rattle.phpsa_texts.specs.Statuses.{judgment_status}
use Rattle.phpsa_texts.specs.Texts.{Says, judgment_text, states_text}
use Rattle.phpsa_tasks.specs.Replies.{IsJudged}
use Rattle.phpsa_tasks.specs.declared.reply.Reply.TheVariants as reply
use Rattle.phpsa_tasks.specs.Results.{TaskResult}

-- what judging a page by a definition comes to: whether it is valid, or content models that pass a limit
abbrev pub IsJudgedAs : Table → List ℕ → TaskResult → Type 0
IsJudgedAs table page (Ok (reply.Text message)) =
    (valid : Bool) × IsJudged table page valid × Says message (judgment_status valid) (judgment_text valid)
IsJudgedAs table page (Ok other) = ⊥
IsJudgedAs table page (Err (Refusal.Told message)) = (count : ℕ) × HasLargeModels table count × Says message Dtd (states_text count)
IsJudgedAs table page (Err Refusal.Memory) = ⊤
