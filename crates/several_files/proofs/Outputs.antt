-- Replies and refusals that are told.
use Rattle.std.proofs.Common.{◌≡◌, ℕ, List, inl, inr, refl, sym, subst}
use Rattle.std.specs.Prelude.{Ok, Err}
use Rattle.phpsa_texts.specs.declared.exit.Exit.{Exit}
use Rattle.phpsa_texts.specs.declared.message.Message.{Message}
use Rattle.phpsa_texts.specs.declared.message.Refusal.{Refusal}
use Rattle.phpsa_texts.specs.declared.exit.Exit.TheVariants as exit
use Rattle.phpsa_texts.specs.Texts.{memory_text, write_fault_text}
use Rattle.phpsa_tasks.specs.Call.{Output, Gains, GainsPrefix, GainsNothing, Fails}
use Rattle.several_files.specs.Telling.{IsPut, replied_by, refused_by, Tells, replied, refused, by_out, by_err, out_wants_memory, err_wants_memory}

-- a refusal that is put on the error stream is told
pub put_told : (Replies Refuses : Exit → List ℕ → Type 0) (out err : Output) (due status : Exit) (text : List ℕ) → Refuses due text
    → GainsNothing out → IsPut due text err status → Tells Replies Refuses out err status
put_told R Q out err due status text owed none (inl (is, all)) = refused text (subst (λ (s : Exit). Q s text) (sym is) owed) none all
put_told R Q out err due status text owed none (inr (inl (is, fails, front))) = by_err due text owed is none fails front
put_told R Q out err due status text owed none (inr (inr (is, front))) = err_wants_memory due text owed is none front

-- what is told so is told as what it stands for
pub told_as : (Replies Refuses Replies' Refuses' : Exit → List ℕ → Type 0)
    → ((status : Exit) (text : List ℕ) → Replies status text → Replies' status text)
    → ((status : Exit) (text : List ℕ) → Refuses status text → Refuses' status text)
    → (out err : Output) (status : Exit) → Tells Replies Refuses out err status → Tells Replies' Refuses' out err status
told_as R Q R' Q' r q out err status (replied text owed all none) = replied text (r status text owed) all none
told_as R Q R' Q' r q out err status (refused text owed none all) = refused text (q status text owed) none all
told_as R Q R' Q' r q out err status (by_out due text owed is fails front told) = by_out due text (r due text owed) is fails front told
told_as R Q R' Q' r q out err status (by_err due text owed is none fails front) = by_err due text (q due text owed) is none fails front
told_as R Q R' Q' r q out err status (out_wants_memory due text owed is front told) = out_wants_memory due text (r due text owed) is front told
told_as R Q R' Q' r q out err status (err_wants_memory due text owed is none front) = err_wants_memory due text (q due text owed) is none front

-- a refusal that has a text
pub refused_so : (refusal : Refusal) (message : Message) (out err : Output) (status : Exit) (bytes : List ℕ) → refusal ≡ Refusal.Told message
    → bytes ≡ message.text → GainsNothing out → IsPut message.status bytes err status → Tells (replied_by (Err refusal)) (refused_by (Err refusal)) out err status
refused_so refusal message out err status bytes is text none puts =
    subst (λ (r : Refusal). Tells (replied_by (Err r)) (refused_by (Err r)) out err status) (sym is)
    (put_told (replied_by (Err (Refusal.Told message))) (refused_by (Err (Refusal.Told message))) out err message.status status message.text (refl, refl) none
    (subst (λ (b : List ℕ). IsPut message.status b err status) text puts))

-- want of memory
pub wanting_so : (refusal : Refusal) (out err : Output) (status : Exit) → refusal ≡ Refusal.Memory → GainsNothing out → IsPut exit.Memory memory_text err status
    → Tells (replied_by (Err refusal)) (refused_by (Err refusal)) out err status
wanting_so refusal out err status is none puts =
    subst (λ (r : Refusal). Tells (replied_by (Err r)) (refused_by (Err r)) out err status) (sym is)
    (put_told (replied_by (Err Refusal.Memory)) (refused_by (Err Refusal.Memory)) out err exit.Memory status memory_text (refl, refl) none puts)

-- a reply that is written, that the output failed at, and that found no memory there
pub replied_so : (message : Message) (out err : Output) (bytes : List ℕ) → bytes ≡ message.text → Gains out bytes → GainsNothing err
    → Tells (replied_by (Ok message)) (refused_by (Ok message)) out err message.status
replied_so message out err bytes text all none = replied message.text (refl, refl) (subst (λ (b : List ℕ). Gains out b) text all) none

pub failed_so : (message : Message) (out err : Output) (bytes : List ℕ) → bytes ≡ message.text → Fails out → GainsPrefix out bytes
    → GainsPrefix err write_fault_text → Tells (replied_by (Ok message)) (refused_by (Ok message)) out err exit.WriteFault
failed_so message out err bytes text fails front told =
    by_out message.status message.text (refl, refl) refl fails (subst (λ (b : List ℕ). GainsPrefix out b) text front) told

pub unwritten_so : (message : Message) (out err : Output) (bytes : List ℕ) → bytes ≡ message.text → GainsPrefix out bytes
    → GainsPrefix err memory_text → Tells (replied_by (Ok message)) (refused_by (Ok message)) out err exit.Memory
unwritten_so message out err bytes text front told =
    out_wants_memory message.status message.text (refl, refl) refl (subst (λ (b : List ℕ). GainsPrefix out b) text front) told
