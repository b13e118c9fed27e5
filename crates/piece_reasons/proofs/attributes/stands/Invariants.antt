use Rattle.std.proofs.Common.{◌≡◌, drop, map}
use Rattle.page_model.specs.Attributes.{stands}
use Rattle.page_rules.specs.Views.{attribute_of}
use Rattle.piece_reasons.proofs.attributes.stands.Given as goal

abbrev pub invariant-loop-attribute : goal.invariant-loop-attribute
invariant-loop-attribute l = stands (map attribute_of (drop l.attribute-index l.attributes)) l.name ≡ stands (map attribute_of l.attributes) l.name
