use Rattle.std.proofs.Common.{◌≡◌, drop, map}
use Rattle.std.specs.List.{list_any}
use Rattle.dtd_model.specs.Table.{declared_of}
use Rattle.dtd_model.specs.TableOf.{table_of}
use Rattle.page_endings.specs.Ending.{may_be_next}
use Rattle.state_testing.proofs.attributes.any_may_be_next.Given as goal

abbrev pub invariant-loop-rule : goal.invariant-loop-rule
invariant-loop-rule l =
    list_any (may_be_next (table_of l.indexed.dtd.now).entities l.tag (map declared_of l.rules.items) l.names l.front) (map declared_of (drop l.rule-index l.rules.items))
    ≡ list_any (may_be_next (table_of l.indexed.dtd.now).entities l.tag (map declared_of l.rules.items) l.names l.front) (map declared_of l.rules.items)
