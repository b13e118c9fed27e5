use Rattle.std.proofs.Common.{◌≡◌, ◌<◌, ◌≤◌, ◌+◌, ◌∙◌, ◌∷◌, List, length, get_or, drop, map, subst, sym, ap}
use Rattle.std.proofs.lemmas.List.{drop_more, drop_all}
use Rattle.dtd_model.specs.Table.{rule_of}
use Rattle.dtd_model.specs.TableOf.{table_of}
use Rattle.dtd_model.specs.declared.dtd.ElementRule.{ElementRule}
use Rattle.form_maker.specs.Making.{making_of}
use Rattle.form_maker.proofs.Attributes.{no_tags, tags_kept, one_element, all_elements}
use Rattle.form_maker.proofs.maker.Maker.elements.Goals as goal

pub loop-rule-init : goal.loop-rule-init
loop-rule-init c = λ h. no_tags (table_of c.args.indexed.now.dtd.now).entities (map rule_of c.args.indexed.now.dtd.now.elements.items) (making_of c.args.self.now)

pub loop-rule-preserved : goal.loop-rule-preserved
loop-rule-preserved c =
    λ h.
    let dtd = c.args.indexed.now.dtd.now in
    let items : List ElementRule = dtd.elements.items in
    let place = c.loop-rule.rule-index in
    let item = c.rule-item.result in
    let lt : place < length items = subst (λ (xs : List ElementRule). place < length xs) c.deref-rule-items.ensures.value c.loop-rule-test.true in
    let is : item ≡ get_or items place item = c.rule-item.is ∙ ap (λ (xs : List ElementRule). get_or xs place item) c.deref-rule-items.ensures.value in
    let so = c.loop-rule.invariant h in
    one_element (table_of dtd).entities (map rule_of (drop place items)) (map rule_of (drop (place + 1) items)) (map rule_of items) (rule_of item) (making_of c.args.self.now) (making_of c.loop-rule.self)
    (making_of c.element.new.self) so (ap (map rule_of) (drop_more items place item lt ∙ ap (λ (x : ElementRule). x ∷ drop (place + 1) items) (sym is)))
    (c.in_ok-element.ensures (tags_kept (table_of dtd).entities (map rule_of (drop place items)) (map rule_of items) (making_of c.args.self.now) (making_of c.loop-rule.self) so h))

pub returns : goal.returns
returns c =
    λ h.
    let dtd = c.args.indexed.now.dtd.now in
    let items : List ElementRule = dtd.elements.items in
    let place = c.loop-rule.rule-index in
    let past : length items ≤ place = subst (λ (xs : List ElementRule). length xs ≤ place) c.deref-rule-items.ensures.value c.loop-rule-test.false in
    all_elements (table_of dtd).entities (map rule_of (drop place items)) (map rule_of items) (making_of c.args.self.now) (making_of c.loop-rule.self) (c.loop-rule.invariant h)
    (ap (map rule_of) (drop_all place items past))
