-- What doing a task comes to, before anything is written.
use Rattle.std.specs.Prelude.{ℕ, List, Result, Ok, Err, ⊤}
use Rattle.derivations.specs.Text.{grammar_text}
use Rattle.program_files.specs.Source.{SourceCall}
use Rattle.phpsa_texts.specs.declared.exit.Exit.{Exit}
use Rattle.phpsa_texts.specs.declared.exit.Exit.TheVariants.{Done, Memory}
use Rattle.phpsa_texts.specs.declared.message.Refusal.{Refusal}
use Rattle.phpsa_tasks.specs.declared.reply.Reply.{Reply}
use Rattle.phpsa_tasks.specs.declared.reply.Reply.TheVariants as reply
use Rattle.phpsa_tasks.specs.Tasks.{Task}
use Rattle.phpsa_tasks.specs.Replies.{Replies, Halts}
use Rattle.phpsa_tasks.specs.Causes.{Refuses}
use Rattle.phpsa_tasks.specs.Counted.{ReadsFor, FaultsAreTold}

-- a reply, a message for `err`, or want of memory
abbrev pub TaskResult : Type 0
TaskResult = Result Reply Refusal

-- the status of a reply
abbrev pub reply_status : Reply → Exit
reply_status (reply.Text message) = message.status
reply_status (reply.Grammar grammar) = Done
reply_status (reply.Halted printed message) = message.status

-- the text of a reply on `out`
abbrev pub reply_text : Reply → List ℕ
reply_text (reply.Text message) = message.text
reply_text (reply.Grammar grammar) = grammar_text grammar.start.0 grammar.productions.items
reply_text (reply.Halted printed message) = printed

-- the status that is due
abbrev pub status_due : TaskResult → Exit
status_due (Ok reply) = reply_status reply
status_due (Err (Refusal.Told message)) = message.status
status_due (Err Refusal.Memory) = Memory

-- this is the reply to the task, or what a run of it leaves that does not come to its end
abbrev pub IsReplyDue : SourceCall → Task → Reply → Type 0
IsReplyDue files task (reply.Text message) = Replies files task message.status message.text
IsReplyDue files task (reply.Grammar grammar) = Replies files task Done (grammar_text grammar.start.0 grammar.productions.items)
IsReplyDue files task (reply.Halted printed message) = Halts files task message.status printed message.text

-- this is due for the task, or the message says why it is refused
abbrev pub IsDue : SourceCall → Task → TaskResult → Type 0
IsDue files task (Ok reply) = IsReplyDue files task reply
IsDue files task (Err (Refusal.Told message)) = Refuses files task message.status message.text
IsDue files task (Err Refusal.Memory) = ⊤

-- the task is done with this result
pub record Does (files : SourceCall) (task : Task) (result : TaskResult) : Type 0 where
  pub due : IsDue files task result
  pub read : ReadsFor task files (status_due result)
  pub faults : FaultsAreTold task files (status_due result)
