-- What the commands come to that ask for a program alone. No public clause cites these.
use Rattle.std.specs.Prelude.{◌≡◌, ℕ, List, Contains, Option, None, Some, Result, Ok, Err, ⊤}
use Rattle.io_edge.specs.Counts.{one_more}
use Rattle.program_files.specs.Source.{SourceCall}
use Rattle.script_meaning.specs.Programs.{PlainProgram}
use Rattle.script_meaning.specs.Requests.{PlainRequest}
use Rattle.script_meaning.specs.Runs.{Ended}
use Rattle.script_meaning.specs.Meaning.{Outcome, meaning}
use Rattle.loose_grammar.specs.Pages.{DerivePages}
use Rattle.program_lowering.specs.Short.{HasLongText}
use Rattle.phpsa_texts.specs.declared.exit.Exit.TheVariants.{Done, Input}
use Rattle.phpsa_texts.specs.declared.message.Refusal.{Refusal}
use Rattle.phpsa_texts.specs.Texts.{Says, long_text}
use Rattle.phpsa_tasks.specs.declared.reply.Reply.{Reply}
use Rattle.phpsa_tasks.specs.declared.reply.Reply.TheVariants as reply
use Rattle.phpsa_tasks.specs.Requests.{FindsRequest, RefusesRequest}
use Rattle.phpsa_tasks.specs.Counted.{uncounted, TellsFaults}
use Rattle.phpsa_tasks.specs.Replies.{IsEarly, IsGrammarReply, end_status, end_text}

-- the file of a request, if there is one, was read once
abbrev pub ReadsRequest : SourceCall → Option (List ℕ) → Type 0
ReadsRequest files None = files.reads' ≡ files.reads
ReadsRequest files (Some name) = files.reads' ≡ one_more files.reads

-- the request that a run is for, or why there is none, which tells a fault
abbrev pub HasRequest : SourceCall → Option (List ℕ) → Result PlainRequest Refusal → Type 0
HasRequest files name (Ok request) = FindsRequest files.content name request × ReadsRequest files name × (files.faults' ≡ files.faults)
HasRequest files name (Err (Refusal.Told message)) =
    RefusesRequest files name message.status message.text × ReadsRequest files name × Contains uncounted message.status
    × TellsFaults files message.status
HasRequest files name (Err Refusal.Memory) = ⊤

-- what is written of a run that came to this
abbrev pub IsRunReply : Outcome → ℕ → Reply → Type 0
IsRunReply outcome steps (reply.Text message) = (outcome.end ≡ Ended) × Says message Done outcome.printed
IsRunReply outcome steps (reply.Grammar grammar) = ⊥
IsRunReply outcome steps (reply.Halted printed message) =
    IsEarly outcome.end × Says message (end_status outcome.end) (end_text steps outcome.end) × (printed ≡ outcome.printed)

-- the reply is that of the run of a program for a request within so many units
abbrev pub IsReplyOfRun : PlainProgram → PlainRequest → ℕ → Reply → Type 0
IsReplyOfRun program request steps reply = IsRunReply (meaning program request steps) steps reply

-- what is written of the grammar of a program, with the name of its file
abbrev pub HasGrammarReply : PlainProgram → List ℕ → Result Reply Refusal → Type 0
HasGrammarReply program name (Ok (reply.Text message)) = IsGrammarReply program message.status message.text
HasGrammarReply program name (Ok (reply.Grammar grammar)) = DerivePages program grammar.productions.items grammar.start
HasGrammarReply program name (Ok (reply.Halted printed message)) = ⊥
HasGrammarReply program name (Err (Refusal.Told message)) = HasLongText program × Says message Input (long_text name)
HasGrammarReply program name (Err Refusal.Memory) = ⊤
