use Rattle.std.proofs.Common.{sym, ◌∙◌, ap, chars}
use Rattle.std.specs.List.{list_all}
use Rattle.xml_text.specs.Characters.{is_character}
use Rattle.xml_text.proofs.texts.is_text.Goals as goal

pub returns-in-Ok : goal.returns-in-Ok
returns-in-Ok c =
    let found = c.in-Ok.ensures.cases in
    let same = c.has_characters_alone.ensures ∙ ap (λ t. list_all is_character (chars t)) found.0 in (
      (λ h. record { utf8 = found.1; characters = sym same ∙ h }),
      (λ h. same ∙ h.characters),
    )

pub returns-in-Err : goal.returns-in-Err
returns-in-Err c = ((λ h. cc), (λ h. absurd (c.in-Err.ensures.cases.0 h.utf8)))
