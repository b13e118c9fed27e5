use Rattle.std.proofs.Common.{◌≡◌, drop, map}
use Rattle.dtd_model.specs.Table.{declared_of}
use Rattle.page_model.specs.Attributes.{is_declared}
use Rattle.page_rules.specs.Views.{attribute_of}
use Rattle.page_rules.proofs.attributes.is_declared.Given as goal

abbrev pub invariant-loop-rule : goal.invariant-loop-rule
invariant-loop-rule l = is_declared (map declared_of (drop l.rule-index l.rules.items)) (attribute_of l.attribute) ≡ is_declared (map declared_of l.rules.items) (attribute_of l.attribute)
