use Rattle.std.proofs.Common.{◌≡◌, drop, map}
use Rattle.std.specs.List.{list_any}
use Rattle.dtd_model.specs.Table.{rule_of}
use Rattle.state_testing.specs.Views.{begins_so, names_of_elements}
use Rattle.state_testing.proofs.names.any_element_begins.Given as goal

abbrev pub invariant-loop-rule : goal.invariant-loop-rule
invariant-loop-rule l =
    list_any (begins_so l.front) (names_of_elements (map rule_of (drop l.rule-index l.elements.items)))
    ≡ list_any (begins_so l.front) (names_of_elements (map rule_of l.elements.items))
