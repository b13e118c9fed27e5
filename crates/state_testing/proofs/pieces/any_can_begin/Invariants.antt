use Rattle.std.proofs.Common.{◌≡◌, drop, map}
use Rattle.std.specs.List.{list_any}
use Rattle.dtd_model.specs.Table.{rule_of}
use Rattle.dtd_model.specs.TableOf.{table_of}
use Rattle.page_endings.specs.Ending.{element_can_begin}
use Rattle.state_testing.proofs.pieces.any_can_begin.Given as goal

abbrev pub invariant-loop-rule : goal.invariant-loop-rule
invariant-loop-rule l =
    list_any (element_can_begin (table_of l.indexed.dtd.now).entities l.front) (map rule_of (drop l.rule-index l.elements.items))
    ≡ list_any (element_can_begin (table_of l.indexed.dtd.now).entities l.front) (map rule_of l.elements.items)
