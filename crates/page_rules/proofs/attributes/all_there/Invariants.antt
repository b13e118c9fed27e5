use Rattle.std.proofs.Common.{◌≡◌, drop, map}
use Rattle.dtd_model.specs.Table.{declared_of}
use Rattle.page_model.specs.Attributes.{all_there}
use Rattle.page_rules.specs.Views.{attribute_of}
use Rattle.page_rules.proofs.attributes.all_there.Given as goal

abbrev pub invariant-loop-rule : goal.invariant-loop-rule
invariant-loop-rule l = all_there l.name (map declared_of (drop l.rule-index l.rules.items)) (map attribute_of l.attributes) ≡ all_there l.name (map declared_of l.rules.items) (map attribute_of l.attributes)
