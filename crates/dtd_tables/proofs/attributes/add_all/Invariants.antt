use Rattle.std.proofs.Common.{◌≡◌, ◌≤◌, ◌++◌, map, length}
use Rattle.std.specs.Vec.Iter.{into_iter_items}
use Rattle.dtd_model.specs.Lawful.{attribute_limit}
use Rattle.dtd_model.specs.Table.{declared_of}
use Rattle.dtd_texts.specs.Tables.{with_others}
use Rattle.dtd_tables.proofs.attributes.add_all.Given as goal

abbrev pub invariant-loop-rule : goal.invariant-loop-rule
invariant-loop-rule l =
    (l.fn.more.items ≡ l.yielded ++ into_iter_items l.rule-iterator)
    × (map declared_of l.rules.items ≡ with_others (map declared_of l.initial.rules.items) (map declared_of l.yielded))
    × (length l.rules.items ≤ attribute_limit)
