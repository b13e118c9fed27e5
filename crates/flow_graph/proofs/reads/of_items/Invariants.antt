use Rattle.std.proofs.Common.{◌≡◌, ◌++◌, drop, map, flat_map}
use Rattle.flow_code.specs.Lawful.{item_slots}
use Rattle.flow_code.specs.View.{plain_item}
use Rattle.flow_graph.specs.Steps.{numbers}
use Rattle.flow_graph.proofs.reads.of_items.Given as goal

abbrev pub invariant-loop-item : goal.invariant-loop-item
invariant-loop-item l =
    numbers l.reads.items ++ flat_map item_slots (map plain_item (drop l.item-index l.items)) ≡ numbers l.initial.reads.items ++ flat_map item_slots (map plain_item l.items)
