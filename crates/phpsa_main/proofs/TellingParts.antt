-- Help, the version and the usage are what doing the tasks comes to.
use Rattle.std.proofs.Common.{◌≡◌, ℕ, List, Option, inr, sym, subst}
use Rattle.std.specs.Prelude.{Ok, Err}
use Rattle.program_files.specs.Source.{SourceCall}
use Rattle.phpsa_texts.specs.declared.exit.Exit.TheVariants.{Done, Usage, Memory}
use Rattle.phpsa_texts.specs.declared.message.Message.{Message}
use Rattle.phpsa_texts.specs.declared.message.Refusal.{Refusal}
use Rattle.phpsa_texts.specs.Texts.{Says, IsTold, help_text, version_text, usage_text}
use Rattle.phpsa_tasks.specs.declared.reply.Reply.TheVariants as reply
use Rattle.phpsa_tasks.specs.Tasks.{Task, help_telling, version_telling, usage}
use Rattle.phpsa_tasks.specs.Counted.{ReadsNothing, ReadsFor}
use Rattle.phpsa_tasks.specs.Results.{TaskResult, Does}
use Rattle.phpsa_tasks.proofs.Faults.{told_anyhow}

pub help_does : (files : SourceCall) (message : Message) → ReadsNothing files → files.faults' ≡ files.faults → Says message Done help_text
    → Does files help_telling (Ok (reply.Text message))
help_does files message read calm says = record { due = record { subject = tt; found = tt; says = says }; read = read; faults = inr calm }

pub version_does : (files : SourceCall) (message : Message) → ReadsNothing files → files.faults' ≡ files.faults → Says message Done version_text
    → Does files version_telling (Ok (reply.Text message))
version_does files message read calm says = record { due = record { subject = tt; found = tt; says = says }; read = read; faults = inr calm }

-- no memory was left for a task that reads nothing
pub wanting_told : (files : SourceCall) (task : Task) (result : TaskResult) → result ≡ Err Refusal.Memory → ReadsFor task files Memory → files.faults' ≡ files.faults
    → Does files task result
wanting_told files task result is read calm = subst (Does files task) (sym is) (record { due = tt; read = read; faults = told_anyhow task files Memory (inr calm) })

pub usage_does : (files : SourceCall) (reason : Option (List ℕ)) (refusal : Refusal) → ReadsNothing files → files.faults' ≡ files.faults
    → IsTold refusal Usage (usage_text reason) → Does files usage (Err refusal)
usage_does files reason (Refusal.Told message) read calm (status_is, text_is) = record { due = (status_is, (reason, text_is)); read = read; faults = inr calm }
usage_does files reason Refusal.Memory read calm says = record { due = tt; read = read; faults = inr calm }
