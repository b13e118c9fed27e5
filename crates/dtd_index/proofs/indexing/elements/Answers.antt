use Rattle.std.proofs.Common.{◌<◌, List, length, get_or, map, subst, ap, ◌∙◌}
use Rattle.dtd_model.specs.Table.{rule_of}
use Rattle.dtd_model.specs.declared.dtd.ElementRule.{ElementRule}
use Rattle.dtd_index.proofs.KeyLemmas.{elements_differ, next_rule_new}
use Rattle.dtd_index.proofs.indexing.elements.Goals as goal

pub put-requires : goal.put-requires
put-requires c =
    let d = c.args.dtd.now in
    let lt : c.loop-rule.rule-index < length d.elements.items = subst (λ (xs : List ElementRule). c.loop-rule.rule-index < length xs) c.deref-rule-items.ensures.value c.loop-rule-test.true in
    next_rule_new d.elements.items c.loop-rule.rule-index c.rule-item.result c.loop-rule.index lt
    (c.rule-item.is ∙ ap (λ (xs : List ElementRule). get_or xs c.loop-rule.rule-index c.rule-item.result) c.deref-rule-items.ensures.value) c.loop-rule.invariant
    (elements_differ (map rule_of d.elements.items) d.entities.items d.lawful)
