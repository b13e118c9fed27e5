use Rattle.std.proofs.Common.{sym, ◌∙◌}
use Rattle.page_rules.specs.Views.{attribute_of}
use Rattle.piece_reasons.proofs.Told.{allowed}
use Rattle.piece_reasons.proofs.attributes.text_fault.Goals as goal

pub returns-then-refers : goal.returns-then-refers
returns-then-refers c = λ entities rules done left more w.
    allowed left (attribute_of c.args.attribute.now) more w (sym c.is_some.ensures ∙ c.if-not-is_some.false) (sym c.are_characters.ensures ∙ c.if-not-are_characters.false)
    (sym c.has_less_than.ensures ∙ c.if-has_less_than.false) (sym c.refers.ensures ∙ c.if-refers.true)
