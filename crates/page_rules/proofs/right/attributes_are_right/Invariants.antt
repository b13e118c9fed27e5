use Rattle.std.proofs.Common.{◌≡◌, drop, map}
use Rattle.std.specs.List.{list_all}
use Rattle.page_model.specs.Right.{attribute_is_right}
use Rattle.page_rules.specs.Views.{attribute_of}
use Rattle.page_rules.proofs.right.attributes_are_right.Given as goal

abbrev pub invariant-loop-attribute : goal.invariant-loop-attribute
invariant-loop-attribute l = list_all attribute_is_right (map attribute_of (drop l.attribute-index l.attributes)) ≡ list_all attribute_is_right (map attribute_of l.attributes)
