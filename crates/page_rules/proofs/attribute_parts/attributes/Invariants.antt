use Rattle.std.proofs.Common.{◌≡◌, length, map}
use Rattle.page_model.specs.Reading.{all_attributes}
use Rattle.page_rules.specs.Views.{attribute_of}
use Rattle.page_rules.proofs.Turns.{joined}
use Rattle.page_rules.proofs.attribute_parts.attributes.Given as goal

abbrev pub invariant-loop-attribute : goal.invariant-loop-attribute
invariant-loop-attribute l = all_attributes l.cs ≡ joined (map attribute_of l.attributes.items) (all_attributes l.rest)

abbrev pub decreases-loop-attribute : goal.decreases-loop-attribute
decreases-loop-attribute l = length l.rest
