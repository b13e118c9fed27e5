use Rattle.std.proofs.Common.{◌≡◌, drop, map}
use Rattle.dtd_model.specs.Table.{declared_of}
use Rattle.page_rules.specs.Views.{attribute_of}
use Rattle.page_rules.specs.Tests.{once_by}
use Rattle.page_rules.proofs.attributes.all_once.Given as goal

abbrev pub invariant-loop-rule : goal.invariant-loop-rule
invariant-loop-rule l = once_by (map attribute_of l.attributes) (map declared_of (drop l.rule-index l.rules.items)) ≡ once_by (map attribute_of l.attributes) (map declared_of l.rules.items)
