use Rattle.std.proofs.Common.{◌≡◌, ◌∷◌, drop, map}
use Rattle.std.specs.List.{list_all}
use Rattle.dtd_model.specs.Table.{declared_of}
use Rattle.dtd_model.specs.TableOf.{table_of}
use Rattle.state_testing.specs.Views.{is_wanted}
use Rattle.state_testing.proofs.attributes.may_be_others.Given as goal

abbrev pub invariant-loop-rule : goal.invariant-loop-rule
invariant-loop-rule l =
    list_all (is_wanted (table_of l.indexed.dtd.now).entities l.tag (map declared_of l.rules.items) (l.name ∷ l.names)) (map declared_of (drop l.rule-index l.rules.items))
    ≡ list_all (is_wanted (table_of l.indexed.dtd.now).entities l.tag (map declared_of l.rules.items) (l.name ∷ l.names)) (map declared_of l.rules.items)
