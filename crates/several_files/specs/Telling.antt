-- How a text is told: a reply on the output, a refusal on the error stream.
use Rattle.std.specs.Prelude.{◌≡◌, ◌⊎◌, List, ℕ, Result, Ok, Err}
use Rattle.phpsa_texts.specs.declared.exit.Exit.{Exit}
use Rattle.phpsa_texts.specs.declared.exit.Exit.TheVariants.{WriteFault, Memory}
use Rattle.phpsa_texts.specs.declared.message.Message.{Message}
use Rattle.phpsa_texts.specs.declared.message.Refusal.{Refusal}
use Rattle.phpsa_texts.specs.declared.message.Refusal.TheVariants as refusal
use Rattle.phpsa_texts.specs.Texts.{Says, memory_text, write_fault_text}
use Rattle.phpsa_tasks.specs.Call.{Output, Gains, GainsPrefix, GainsNothing, Fails}

-- a result is this reply
abbrev pub replied_by : Result Message Refusal → Exit → List ℕ → Type 0
replied_by (Ok message) status text = Says message status text
replied_by (Err cause) status text = ⊥

-- a result is this refusal
abbrev pub refused_by : Result Message Refusal → Exit → List ℕ → Type 0
refused_by (Ok message) status text = ⊥
refused_by (Err (refusal.Told message)) status text = Says message status text
refused_by (Err refusal.Memory) status text = (status ≡ Memory) × (text ≡ memory_text)

-- A reply or a refusal, each by its status and text, is told: a reply stands on the output, and nothing on the error stream; a refusal
-- there, and nothing on the output. Or an output failed, or wanted memory, and has a front of it.
pub data Tells (Replies Refuses : Exit → List ℕ → Type 0) (out err : Output) (status : Exit) : Type 0 where
  replied : (text : List ℕ) → Replies status text → Gains out text → GainsNothing err → Tells Replies Refuses out err status
  refused : (text : List ℕ) → Refuses status text → GainsNothing out → Gains err text → Tells Replies Refuses out err status
  by_out : (due : Exit) (text : List ℕ) → Replies due text → status ≡ WriteFault → Fails out → GainsPrefix out text
      → GainsPrefix err write_fault_text → Tells Replies Refuses out err status
  by_err : (due : Exit) (text : List ℕ) → Refuses due text → status ≡ WriteFault → GainsNothing out → Fails err
      → GainsPrefix err text → Tells Replies Refuses out err status
  out_wants_memory : (due : Exit) (text : List ℕ) → Replies due text → status ≡ Memory → GainsPrefix out text
      → GainsPrefix err memory_text → Tells Replies Refuses out err status
  err_wants_memory : (due : Exit) (text : List ℕ) → Refuses due text → status ≡ Memory → GainsNothing out
      → GainsPrefix err text → Tells Replies Refuses out err status

-- a text is put on an output, after which a call ends with a status: all of it, or the output failed, or wanted memory
abbrev pub IsPut : Exit → List ℕ → Output → Exit → Type 0
IsPut due text output status =
    ((status ≡ due) × Gains output text)
    ⊎ (((status ≡ WriteFault) × Fails output × GainsPrefix output text) ⊎ ((status ≡ Memory) × GainsPrefix output text))
