use Rattle.std.proofs.Common.{sym, ◌∙◌, ap, chars}
use Rattle.std.proofs.lemmas.Str.{IsUtf8-past_char, chars_past_char, chars-nil}
use Rattle.std.proofs.lemmas.List.{nil_from_length}
use Rattle.std.specs.List.{list_all}
use Rattle.xml_text.specs.Characters.{is_character}
use Rattle.xml_text.proofs.Steps.{first_fails, first_passes}
use Rattle.xml_text.proofs.texts.has_characters_alone.Goals as goal

pub returns-then-not-is_character : goal.returns-then-not-is_character
returns-then-not-is_character c =
    let held = c.loop-c.invariant in
    let step = chars_past_char _ _ c.in-Some.c held.0 c.in-Some.ensures.steps.0 in
    let fails = sym c.is_character.ensures ∙ c.if-not-is_character.true in
    sym (first_fails is_character _ _ c.in-Some.c step fails) ∙ held.1

pub loop-c-preserved : goal.loop-c-preserved
loop-c-preserved c =
    let held = c.loop-c.invariant in
    let parts = c.in-Some.ensures.steps.0 in
    let step = chars_past_char _ _ c.in-Some.c held.0 parts in
    let passes = sym c.is_character.ensures ∙ c.if-not-is_character.false in
    (IsUtf8-past_char _ _ c.in-Some.c held.0 parts, sym (first_passes is_character _ _ c.in-Some.c step passes) ∙ held.1)

pub returns : goal.returns
returns c =
    let none = nil_from_length _ c.in-None.ensures.steps.0.0 in
    sym (ap (λ t. list_all is_character (chars t)) none ∙ ap (list_all is_character) chars-nil) ∙ c.loop-c.invariant.1
