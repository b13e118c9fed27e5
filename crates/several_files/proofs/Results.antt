-- Results of reports and lists.
use Rattle.std.proofs.Common.{◌≡◌, ◌∙◌, ℕ, List, refl, sym, ap, subst, inl, inr}
use Rattle.std.specs.Prelude.{Result, Ok, Err}
use Rattle.phpsa_texts.specs.declared.exit.Exit.{Exit}
use Rattle.phpsa_texts.specs.declared.exit.Exit.TheVariants as exit
use Rattle.phpsa_texts.specs.declared.message.Message.{Message}
use Rattle.phpsa_texts.specs.declared.message.Refusal.{Refusal}
use Rattle.phpsa_texts.specs.Texts.{memory_text}
use Rattle.site_check.specs.Listed.{names_in}
use Rattle.several_files.specs.Words.{Checks}
use Rattle.several_files.specs.Lines.{Answer, told, report, report_status}
use Rattle.several_files.specs.Calls.{Moment, AreAnswers}
use Rattle.several_files.specs.Endings.{OwesReport, ended, wants_memory, owes, unlistable, AreNamesFor, AreRefused, IsReportOr, IsListOr, IsListForOr}
use Rattle.several_files.proofs.Lists.{names_read}

-- a report is made
pub report_made : (checks : Checks) (before now : Moment) (status : Exit) (text : List ℕ) (answers shown : List Answer)
    → AreAnswers checks.options before now checks.files answers → shown ≡ told answers → text ≡ report shown → status ≡ report_status shown
    → OwesReport checks before now status text
report_made checks before now status text answers shown are is text_is status_is =
    record { answers = answers; answered = are; text_is = text_is ∙ ap report is; status_is = status_is ∙ ap report_status is }

-- a call has ended all, or memory was wanting
pub report_refused : (checks : Checks) (before now : Moment) (refusal : Refusal) → AreRefused checks.options before now checks.files refusal
    → IsReportOr checks before now (Err refusal)
report_refused checks before now refusal (s, t, by, inl e) = (s, t, by, ended e)
report_refused checks before now refusal (s, t, by, inr w) = (s, t, by, wants_memory w)

-- the same where it is handed on
pub report_refused_so : (checks : Checks) (before now : Moment) (result : Result Message Refusal) (refusal : Refusal) → result ≡ Err refusal
    → AreRefused checks.options before now checks.files refusal → IsReportOr checks before now result
report_refused_so checks before now result refusal is are =
    subst (λ (r : Result Message Refusal). IsReportOr checks before now r) (sym is) (report_refused checks before now refusal are)

pub report_wants : (checks : Checks) (before now : Moment) (result : Result Message Refusal) → result ≡ Err Refusal.Memory → IsReportOr checks before now result
report_wants checks before now result is =
    subst (λ (r : Result Message Refusal). IsReportOr checks before now r) (sym is) (exit.Memory, memory_text, (refl, refl), wants_memory (refl, refl))

-- a list of names for `site`
pub list_made : (checks : Checks) (before now : Moment) (names : List (List ℕ)) (result : Result (List ℕ) Refusal) → AreNamesFor checks before now names
    → IsListOr names result → IsListForOr checks before now result
list_made checks before now names (Ok list) are (listable, is) =
    record { names = names; are = are; listable = listable; list_is = is; read = ap names_in is ∙ names_read names listable }
list_made checks before now names (Err refusal) are (s, t, by, inl (none, status, text)) = (s, t, by, unlistable names are none status text)
list_made checks before now names (Err refusal) are (s, t, by, inr w) = (s, t, by, owes (wants_memory w))

-- a call has ended all, or memory was wanting
pub list_refused_so : (checks : Checks) (before now : Moment) (result : Result (List ℕ) Refusal) (refusal : Refusal) → result ≡ Err refusal
    → AreRefused checks.options before now checks.files refusal → IsListForOr checks before now result
list_refused_so checks before now result refusal is are = subst (λ (r : Result (List ℕ) Refusal). IsListForOr checks before now r) (sym is) (by are)
  where
    by : AreRefused checks.options before now checks.files refusal → IsListForOr checks before now (Err refusal)
    by (s, t, says, inl e) = (s, t, says, owes (ended e))
    by (s, t, says, inr w) = (s, t, says, owes (wants_memory w))

pub list_for_wants : (checks : Checks) (before now : Moment) (result : Result (List ℕ) Refusal) → result ≡ Err Refusal.Memory → IsListForOr checks before now result
list_for_wants checks before now result is =
    subst (λ (r : Result (List ℕ) Refusal). IsListForOr checks before now r) (sym is) (exit.Memory, memory_text, (refl, refl), owes (wants_memory (refl, refl)))

-- why there are no answers
pub answers_want : (checks : Checks) (before now : Moment) (refusal : Refusal) → refusal ≡ Refusal.Memory
    → AreRefused checks.options before now checks.files refusal
answers_want checks before now refusal is =
    subst (λ (r : Refusal). AreRefused checks.options before now checks.files r) (sym is) (exit.Memory, memory_text, (refl, refl), inr (refl, refl))
