-- What holding the pages of a program against a pattern comes to. No public clause cites these.
use Rattle.std.specs.Prelude.{◌≡◌, ℕ, List, Result, Ok, Err, ⊤}
use Rattle.io_edge.specs.Counts.{one_more}
use Rattle.page_policy.specs.Patterns.{Pattern}
use Rattle.page_policy.specs.Forms.{IsForm}
use Rattle.page_policy.specs.declared.pattern.Pattern.{Pattern as Held}
use Rattle.script_decision.specs.declared.policy_answer.PolicyAnswer.{PolicyAnswer}
use Rattle.program_files.specs.Source.{SourceCall}
use Rattle.script_meaning.specs.Programs.{PlainProgram}
use Rattle.program_lowering.specs.Short.{HasLongText}
use Rattle.phpsa_texts.specs.declared.exit.Exit.TheVariants.{Input}
use Rattle.phpsa_texts.specs.declared.message.Refusal.{Refusal}
use Rattle.phpsa_texts.specs.Texts.{Says, long_text}
use Rattle.phpsa_tasks.specs.declared.reply.Reply.TheVariants as reply
use Rattle.phpsa_tasks.specs.Policies.{FindsPattern, RefusesPattern}
use Rattle.phpsa_tasks.specs.PolicyAnswers.{match_status, match_text, IsMatch}
use Rattle.phpsa_tasks.specs.Counted.{TellsFaults}
use Rattle.phpsa_tasks.specs.Results.{TaskResult}

-- in memory stands the pattern that is found
pub record HoldsFound (files : SourceCall) (name : List ℕ) (held : Held) : Type 0 where
  pub plain : Pattern
  pub finds : FindsPattern files.content name plain
  pub form : IsForm held.arena held.root plain

-- the pattern of a file, or why there is none, which tells a fault; the file was read once
abbrev pub HasPattern : SourceCall → List ℕ → Result Held Refusal → Type 0
HasPattern files name (Ok held) = HoldsFound files name held × (files.reads' ≡ one_more files.reads) × (files.faults' ≡ files.faults)
HasPattern files name (Err (Refusal.Told message)) =
    RefusesPattern files name message.status message.text × (files.reads' ≡ one_more files.reads) × TellsFaults files message.status
HasPattern files name (Err Refusal.Memory) = ⊤

-- what is written of a program by a pattern, with the name of its file
abbrev pub HasMatchReply : PlainProgram → Pattern → List ℕ → TaskResult → Type 0
HasMatchReply program p name (Ok (reply.Text message)) =
    (answer : PolicyAnswer) × IsMatch p program answer × Says message (match_status answer) (match_text answer)
HasMatchReply program p name (Ok other) = ⊥
HasMatchReply program p name (Err (Refusal.Told message)) = HasLongText program × Says message Input (long_text name)
HasMatchReply program p name (Err Refusal.Memory) = ⊤
