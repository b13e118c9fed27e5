-- What results of calls owe.
use Rattle.std.proofs.Common.{◌≡◌, ◌∙◌, ℕ, List, length, refl, sym, subst, inl, inr}
use Rattle.std.specs.Prelude.{◌⊎◌, Result, Ok, Err}
use Rattle.site_check.specs.declared.list_refusal.ListRefusal.TheVariants.{Names}
use Rattle.phpsa_texts.specs.declared.exit.Exit.{Exit}
use Rattle.phpsa_texts.specs.declared.exit.Exit.TheVariants as exit
use Rattle.phpsa_texts.specs.declared.message.Message.{Message}
use Rattle.phpsa_texts.specs.declared.message.Refusal.{Refusal}
use Rattle.phpsa_texts.specs.Texts.{IsTold, list_text, memory_text}
use Rattle.several_files.specs.Words.{Checks}
use Rattle.several_files.specs.Calls.{Moment}
use Rattle.several_files.specs.Telling.{replied_by, refused_by}
use Rattle.several_files.specs.Endings.{OwesReport, OwesRefusal, OwesListRefusal, OwesCount, is_wanting, IsReportOr, IsListForOr}

-- a refusal that is told, by its status and text
pub told_refusal : (refusal : Refusal) (status : Exit) (text : List ℕ) → IsTold refusal status text
    → (s : Exit) × (t : List ℕ) × refused_by (Err refusal) s t × (((s ≡ status) × (t ≡ text)) ⊎ is_wanting s t)
told_refusal (Refusal.Told message) status text says = (message.status, message.text, (refl, refl), inl says)
told_refusal Refusal.Memory status text says = (exit.Memory, memory_text, (refl, refl), inr (refl, refl))

-- a refusal has one status and one text
pub same_refusal : (refusal : Refusal) (Owes : Exit → List ℕ → Type 0) (status other : Exit) (text another : List ℕ) → refused_by (Err refusal) status text
    → refused_by (Err refusal) other another → Owes status text → Owes other another
same_refusal (Refusal.Told message) Owes status other text another one two owes =
    subst (λ (t : List ℕ). Owes other t) (sym one.1 ∙ two.1) (subst (λ (s : Exit). Owes s text) (sym one.0 ∙ two.0) owes)
same_refusal Refusal.Memory Owes status other text another one two owes =
    subst (λ (t : List ℕ). Owes other t) (one.1 ∙ sym two.1) (subst (λ (s : Exit). Owes s text) (one.0 ∙ sym two.0) owes)

-- a report that is due
pub owed_report : (checks : Checks) (before now : Moment) (result : Result Message Refusal) → IsReportOr checks before now result → (status : Exit) (text : List ℕ)
    → replied_by result status text → OwesReport checks before now status text
owed_report checks before now (Ok message) is status text by =
    subst (λ (t : List ℕ). OwesReport checks before now status t) by.1 (subst (λ (s : Exit). OwesReport checks before now s message.text) by.0 is)
owed_report checks before now (Err refusal) is status text by = absurd by

-- a refusal that is due in its place
pub owed_refusal : (checks : Checks) (before now : Moment) (result : Result Message Refusal) → IsReportOr checks before now result → (status : Exit) (text : List ℕ)
    → refused_by result status text → OwesRefusal checks before now status text
owed_refusal checks before now (Ok message) is status text by = absurd by
owed_refusal checks before now (Err refusal) (s, t, says, due) status text by =
    same_refusal refusal (OwesRefusal checks before now) s status t text says by due

-- a refusal that is due in place of a list
pub owed_list_refusal : (checks : Checks) (before now : Moment) (refusal : Refusal) → IsListForOr checks before now (Err refusal) → (status : Exit) (text : List ℕ)
    → refused_by (Err refusal) status text → OwesListRefusal checks before now status text
owed_list_refusal checks before now refusal (s, t, says, due) status text by =
    same_refusal refusal (OwesListRefusal checks before now) s status t text says by due

-- a count that is told
pub owed_count : (checks : Checks) (refusal : Refusal) → IsTold refusal exit.Input (list_text (Names (length checks.files))) → (status : Exit) (text : List ℕ)
    → refused_by (Err refusal) status text → OwesCount checks status text
owed_count checks (Refusal.Told message) says status text by = inl (sym by.0 ∙ says.0, sym by.1 ∙ says.1)
owed_count checks Refusal.Memory says status text by = inr by

-- nothing is replied where there is a refusal
pub replies_nothing : (Owes : Exit → List ℕ → Type 0) (refusal : Refusal) (status : Exit) (text : List ℕ) → replied_by (Err refusal) status text → Owes status text
replies_nothing Owes refusal status text none = absurd none
