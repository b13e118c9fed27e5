-- What writing comes to. No public clause cites these.
use Rattle.std.specs.Prelude.{◌≡◌, ◌⊎◌, ℕ, List}
use Rattle.phpsa_texts.specs.declared.exit.Exit.{Exit}
use Rattle.phpsa_texts.specs.declared.exit.Exit.TheVariants.{Done, WriteFault, Memory}
use Rattle.phpsa_texts.specs.declared.message.Refusal.{Refusal}
use Rattle.phpsa_texts.specs.Texts.{memory_text, write_fault_text}
use Rattle.phpsa_tasks.specs.declared.reply.Reply.{Reply}
use Rattle.phpsa_tasks.specs.declared.reply.Reply.TheVariants as reply
use Rattle.phpsa_tasks.specs.Results.{reply_text}
use Rattle.phpsa_tasks.specs.Call.{Output, Gains, GainsPrefix, GainsNothing, Fails}

-- a text was put on an output, and the call ends with this status: the wanted one, or that of a fault
abbrev pub Puts : Output → List ℕ → Exit → Exit → Type 0
Puts output text wanted status = ((status ≡ wanted) × Gains output text)
    ⊎ (((status ≡ WriteFault) × Fails output × GainsPrefix output text) ⊎ ((status ≡ Memory) × GainsPrefix output text))

-- the text of a reply stands on `out`: `err` is as it was, or why a run did not come to its end was put there
abbrev pub EndsOnErr : Reply → Output → Exit → Type 0
EndsOnErr (reply.Text message) err status = (status ≡ message.status) × GainsNothing err
EndsOnErr (reply.Grammar grammar) err status = (status ≡ Done) × GainsNothing err
EndsOnErr (reply.Halted printed message) err status = Puts err message.text message.status status

-- all of the text of a reply stands on `out`
abbrev pub WritesReply : Reply → Output → Output → Exit → Type 0
WritesReply reply out err status = Gains out (reply_text reply) × EndsOnErr reply err status

-- `out` failed, and `err` has what it took of the text for that
pub record FailsOnOut (text : List ℕ) (out err : Output) (status : Exit) : Type 0 where
  pub status_is : status ≡ WriteFault
  pub failed : Fails out
  pub out_gains : GainsPrefix out text
  pub err_gains : GainsPrefix err write_fault_text

-- no memory was left on `out`, which may have a prefix of the reply, and that was put on `err`
pub record WantsMemory (text : List ℕ) (out err : Output) (status : Exit) : Type 0 where
  pub out_gains : GainsPrefix out text
  pub err_puts : Puts err memory_text Memory status

-- a reply was written, or `out` failed, or memory was wanting on it
abbrev pub Reports : Reply → Output → Output → Exit → Type 0
Reports reply out err status =
    WritesReply reply out err status ⊎ (FailsOnOut (reply_text reply) out err status ⊎ WantsMemory (reply_text reply) out err status)

-- a refusal was put on `err`
abbrev pub ReportsRefusal : Refusal → Output → Exit → Type 0
ReportsRefusal (Refusal.Told message) err status = Puts err message.text message.status status
ReportsRefusal Refusal.Memory err status = Puts err memory_text Memory status
