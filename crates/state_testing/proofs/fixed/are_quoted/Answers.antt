use Rattle.std.proofs.Common.{sym, ◌∙◌, ap, chars}
use Rattle.std.proofs.lemmas.Str.{IsUtf8-past_char, chars_past_char, chars-nil}
use Rattle.std.proofs.lemmas.List.{nil_from_length}
use Rattle.std.specs.List.{list_all}
use Rattle.page_model.specs.Parts.{may_be_quoted}
use Rattle.state_testing.proofs.Rests.{first_fails, first_passes}
use Rattle.state_testing.proofs.fixed.are_quoted.Goals as goal

pub returns-then-not-may_be_quoted : goal.returns-then-not-may_be_quoted
returns-then-not-may_be_quoted c =
    let held = c.loop-c.invariant in
    let step = chars_past_char _ _ c.in-Some.c held.0 c.in-Some.ensures.steps.0 in
    let fails = sym c.may_be_quoted.ensures ∙ c.if-not-may_be_quoted.true in
    sym (first_fails (may_be_quoted c.args.quote) _ _ c.in-Some.c step fails) ∙ held.1

pub loop-c-preserved : goal.loop-c-preserved
loop-c-preserved c =
    let held = c.loop-c.invariant in
    let parts = c.in-Some.ensures.steps.0 in
    let step = chars_past_char _ _ c.in-Some.c held.0 parts in
    let passes = sym c.may_be_quoted.ensures ∙ c.if-not-may_be_quoted.false in
    (IsUtf8-past_char _ _ c.in-Some.c held.0 parts, sym (first_passes (may_be_quoted c.args.quote) _ _ c.in-Some.c step passes) ∙ held.1)

pub returns : goal.returns
returns c =
    let none = nil_from_length _ c.in-None.ensures.steps.0.0 in
    sym (ap (λ t. list_all (may_be_quoted c.args.quote) (chars t)) none ∙ ap (list_all (may_be_quoted c.args.quote)) chars-nil) ∙ c.loop-c.invariant.1
