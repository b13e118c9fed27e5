use Rattle.std.proofs.Common.{◌<◌, ℕ, List, length, get_or, map, subst, ap, ◌∙◌}
use Rattle.dtd_model.specs.Table.{rule_of}
use Rattle.dtd_index.proofs.KeyLemmas.{entities_differ, next_name_new}
use Rattle.dtd_index.proofs.indexing.entities.Goals as goal

pub put-requires : goal.put-requires
put-requires c =
    let d = c.args.dtd.now in
    let lt : c.loop-name.name-index < length d.entities.items = subst (λ (xs : List (List ℕ)). c.loop-name.name-index < length xs) c.deref-name-items.ensures.value c.loop-name-test.true in
    next_name_new d.entities.items c.loop-name.name-index c.name-item.result c.loop-name.index lt
    (c.name-item.is ∙ ap (λ (xs : List (List ℕ)). get_or xs c.loop-name.name-index c.name-item.result) c.deref-name-items.ensures.value) c.loop-name.invariant
    (entities_differ (map rule_of d.elements.items) d.entities.items d.lawful)
