use Rattle.std.proofs.Common.{◌≡◌, ◌++◌, map}
use Rattle.std.specs.Vec.Iter.{into_iter_items}
use Rattle.dtd_model.specs.Table.{rule_of}
use Rattle.dtd_tables.specs.Updates.{HaveFew}
use Rattle.dtd_tables.specs.Views.{list_said, updated_by}
use Rattle.dtd_tables.proofs.elements.put_lists.Given as goal

abbrev pub invariant-loop-list : goal.invariant-loop-list
invariant-loop-list l =
    (l.fn.lists.items ≡ l.yielded ++ into_iter_items l.list-iterator)
    × (map rule_of l.elements.items ≡ updated_by (map list_said l.yielded) (map rule_of l.initial.elements.items))
    × HaveFew (map rule_of l.elements.items)
