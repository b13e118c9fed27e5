use Rattle.std.proofs.Common.{rules, ◌≡◌, ◌∙◌, ℕ, List, length, map, nat_lt, true, refl, sym, ap, subst}
use Rattle.std.specs.Prelude.{None, Some, string_bytes}
use Rattle.std.proofs.lemmas.Bool.{lt-ltb}
use Rattle.std.proofs.lemmas.List.{length-map}
use Rattle.several_files.specs.Words.{asked_checks}
use Rattle.several_files.specs.Endings.{alone, are_several, each, wants}
use Rattle.several_files.specs.Views.{checks_as, file_as}
use Rattle.several_files.proofs.Ways.{words_want}
use Rattle.several_files.proofs.answer.Goals as goal

pub returns-in-Err : goal.returns-in-Err
returns-in-Err g c = wants (words_want _ _ c.refuse.result (c.refuse.ensures _ refl))

pub returns-then-names-gt1 : goal.returns-then-names-gt1
returns-then-names-gt1 g c =
    let several : nat_lt 1 (length (map file_as c.in-Ok-Some.checks.files.items)) ≡ true =
    subst (λ (n : ℕ). nat_lt 1 n ≡ true) (ap length c.as_slice-names.ensures.value ∙ sym (length-map c.in-Ok-Some.checks.files.items file_as))
    (lt-ltb 1 (length c.as_slice-names.result.now) c.if-names-gt1.true) in
    let asked : Some (checks_as c.in-Ok-Some.checks) ≡ asked_checks (map string_bytes c.deref.result.now) = search rules in
    each (checks_as c.in-Ok-Some.checks) (ap (λ (ws : List _). asked_checks (map string_bytes ws)) (sym c.deref.ensures.value) ∙ sym asked) several c.check_each.ensures

pub returns-in-Ok-None : goal.returns-in-Ok-None
returns-in-Ok-None g c =
    let none : asked_checks (map string_bytes c.deref.result.now) ≡ None = search rules in
    alone (ap are_several (ap (λ (ws : List _). asked_checks (map string_bytes ws)) (sym c.deref.ensures.value) ∙ none)) c.phpsa.ensures
