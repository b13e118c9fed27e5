use Rattle.std.proofs.Common.{◌≡◌, sym, ◌∙◌, map, subst, List, Some, slice_get}
use Rattle.dtd_model.specs.declared.dtd.AttrRule.{AttrRule}
use Rattle.dtd_model.specs.Table.{declared_of}
use Rattle.page_rules.specs.Views.{attribute_of, place_of}
use Rattle.piece_reasons.specs.Sites.{table_at}
use Rattle.piece_reasons.proofs.Found.{numbered}
use Rattle.piece_reasons.proofs.Told.{missing}
use Rattle.piece_reasons.proofs.tags.OpenTag.missing.Goals as goal

pub returns-then-not-has_named : goal.returns-then-not-has_named
returns-then-not-has_named c = λ rest behind left n h e.
    let items = c.as_slice-rule-items.result.now in
    let d = declared_of c.rule-item.result in
    let found = subst (λ (xs : List AttrRule). slice_get (map declared_of xs) c.loop-number.number ≡ Some d) c.as_slice-rule-items.ensures.value
    (numbered declared_of items c.loop-number.number c.rule-item.result c.loop-number-test.true c.rule-item.is) in
    missing (table_at c.args.self.now.site.now) c.args.self.now.site.now.size (place_of c.args.self.now.site.now.place) rest c.args.self.now.name.now behind c.args.self.now.element
    (map declared_of c.args.self.now.rules.now.items) (map attribute_of c.args.done.now) left c.loop-number.number d n h c.requires e found
    (sym c.must_stand.ensures ∙ c.if-must_stand.true) (sym c.has_named.ensures ∙ c.if-not-has_named.true)
