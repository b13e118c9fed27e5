use Rattle.std.proofs.Common.{◌≡◌, drop, map}
use Rattle.std.specs.List.{list_all}
use Rattle.dtd_model.specs.Table.{declared_of}
use Rattle.page_model.specs.Attributes.{is_declared}
use Rattle.page_rules.specs.Views.{attribute_of}
use Rattle.page_rules.proofs.attributes.all_declared.Given as goal

abbrev pub invariant-loop-attribute : goal.invariant-loop-attribute
invariant-loop-attribute l = list_all (is_declared (map declared_of l.rules.items)) (map attribute_of (drop l.attribute-index l.attributes)) ≡ list_all (is_declared (map declared_of l.rules.items)) (map attribute_of l.attributes)
