-- What was found and what was written make an ending.
use Rattle.std.proofs.Common.{◌≡◌, inl, inr, ℕ, List, Option, length, refl, sym, subst, arith}
use Rattle.std.specs.Prelude.{◌⊎◌, Ok, Err}
use Rattle.std.proofs.Math.Seq.{take-length}
use Rattle.std.specs.Io.KnownBytes.{Appends}
use Rattle.io_edge.specs.Taken.{AppendsPrefix}
use Rattle.phpsa_texts.specs.declared.exit.Exit.{Exit}
use Rattle.phpsa_texts.specs.declared.exit.Exit.TheVariants.{Done, WriteFault, Memory}
use Rattle.phpsa_texts.specs.declared.message.Refusal.{Refusal}
use Rattle.phpsa_texts.specs.Texts.{memory_text}
use Rattle.phpsa_tasks.specs.declared.reply.Reply.{Reply}
use Rattle.phpsa_tasks.specs.declared.reply.Reply.TheVariants as reply
use Rattle.phpsa_tasks.specs.Tasks.{Task, AsksFor}
use Rattle.phpsa_tasks.specs.Call.{Call, Gains, GainsPrefix, GainsNothing, Fails}
use Rattle.phpsa_tasks.specs.Results.{Does}
use Rattle.phpsa_tasks.specs.Endings.{OwesReply, OwesRefusal, of_task, wants_memory, OwesHalt, IsDueOnOut, LeavesOut, at_refusal, at_halt, at_want, Ends, replied, refused, halted, by_out, by_err, no_memory}
use Rattle.phpsa_main.specs.Steps.{Puts, FailsOnOut, WantsMemory, Reports, ReportsRefusal}

-- a whole text is a prefix of itself
whole : (old new : Option (List ℕ)) (text : List ℕ) → Appends old new text → AppendsPrefix old new text
whole old new text h = (length text, omega arith, subst (λ bytes. Appends old new bytes) (sym (take-length text)) h)

-- `err` failed, or found no memory
failed_as : (call : Call) (status : Exit) (text : List ℕ) → LeavesOut call text → status ≡ WriteFault → Fails call.err → GainsPrefix call.err text → Ends call status
failed_as call status text left is failed err = by_err is (record { text = text; left = left; failed = failed; err = err })

wanting : (call : Call) (status : Exit) (text : List ℕ) → LeavesOut call text → status ≡ Memory → GainsPrefix call.err text → Ends call status
wanting call status text left is err = no_memory is (record { text = text; left = left; err = err })

-- a refusal was put on `err`, and nothing on `out`
put_as : (call : Call) (own status : Exit) (text : List ℕ) → OwesRefusal call own text → GainsNothing call.out → Puts call.err text own status → Ends call status
put_as call own status text owed out (inl (is, gains)) =
    refused (record { text = text; owed = subst (λ (s : Exit). OwesRefusal call s text) (sym is) owed; out = out; err = gains })
put_as call own status text owed out (inr (inl (is, failed, prefix))) = failed_as call status text (at_refusal own owed out) is failed prefix
put_as call own status text owed out (inr (inr (is, prefix))) = wanting call status text (at_refusal own owed out) is prefix

-- want of memory, where `out` may have a prefix of a reply
memory_as : (call : Call) (status : Exit) → LeavesOut call memory_text → Puts call.err memory_text Memory status → Ends call status
memory_as call status left (inl (is, gains)) = wanting call status memory_text left is (whole _ _ _ gains)
memory_as call status left (inr (inl (is, failed, prefix))) = failed_as call status memory_text left is failed prefix
memory_as call status left (inr (inr (is, prefix))) = wanting call status memory_text left is prefix

pub wanting_ends : (call : Call) (status : Exit) → GainsNothing call.out → ReportsRefusal Refusal.Memory call.err status → Ends call status
wanting_ends call status out puts = memory_as call status (at_refusal Memory (wants_memory refl refl) out) puts

-- the task is refused
pub refused_ends : (call : Call) (task : Task) (refusal : Refusal) (status : Exit) → AsksFor call.words task → Does call.files task (Err refusal) → GainsNothing call.out
    → ReportsRefusal refusal call.err status → Ends call status
refused_ends call task (Refusal.Told message) status asked does out puts = put_as call message.status status message.text (of_task task asked does.due) out puts
refused_ends call task Refusal.Memory status asked does out puts = wanting_ends call status out puts

-- a text that is due on `out` could not be written there
unwritten : (call : Call) (text : List ℕ) (status : Exit) → IsDueOnOut call text → FailsOnOut text call.out call.err status ⊎ WantsMemory text call.out call.err status → Ends call status
unwritten call text status due (inl w) = by_out w.status_is (record { text = text; due = due; failed = w.failed; out = w.out_gains; err = w.err_gains })
unwritten call text status due (inr w) = memory_as call status (at_want text refl due w.out_gains) w.err_puts

-- the task has a reply
whole_ends : (call : Call) (own status : Exit) (text : List ℕ) → OwesReply call own text → Gains call.out text → status ≡ own → GainsNothing call.err → Ends call status
whole_ends call own status text owed gains is nothing =
    replied (record { text = text; owed = subst (λ (s : Exit). OwesReply call s text) (sym is) owed; out = gains; err = nothing })

-- what a run printed stands on `out`, and why it did not come to its end was put on `err`
halted_ends : (call : Call) (own status : Exit) (printed text : List ℕ) → OwesHalt call own printed text → Gains call.out printed → Puts call.err text own status → Ends call status
halted_ends call own status printed text owed gains (inl (is, told)) =
    halted (record { printed = printed; text = text; owed = subst (λ (s : Exit). OwesHalt call s printed text) (sym is) owed; out = gains; err = told })
halted_ends call own status printed text owed gains (inr (inl (is, failed, prefix))) =
    failed_as call status text (at_halt own printed owed gains) is failed prefix
halted_ends call own status printed text owed gains (inr (inr (is, prefix))) =
    wanting call status text (at_halt own printed owed gains) is prefix

pub replied_ends : (call : Call) (task : Task) (own : Reply) (status : Exit) → AsksFor call.words task → Does call.files task (Ok own)
    → Reports own call.out call.err status → Ends call status
replied_ends call task (reply.Text message) status asked does (inl (gains, (is, nothing))) =
    whole_ends call message.status status message.text (record { task = task; asked = asked; replies = does.due }) gains is nothing
replied_ends call task (reply.Text message) status asked does (inr w) =
    unwritten call message.text status (message.status, inl (record { task = task; asked = asked; replies = does.due })) w
replied_ends call task (reply.Grammar grammar) status asked does (inl (gains, (is, nothing))) =
    whole_ends call Done status _ (record { task = task; asked = asked; replies = does.due }) gains is nothing
replied_ends call task (reply.Grammar grammar) status asked does (inr w) =
    unwritten call _ status (Done, inl (record { task = task; asked = asked; replies = does.due })) w
replied_ends call task (reply.Halted printed message) status asked does (inl (gains, puts)) =
    halted_ends call message.status status printed message.text (record { task = task; asked = asked; halts = does.due }) gains puts
replied_ends call task (reply.Halted printed message) status asked does (inr w) =
    unwritten call printed status (message.status, inr (message.text, record { task = task; asked = asked; halts = does.due })) w
