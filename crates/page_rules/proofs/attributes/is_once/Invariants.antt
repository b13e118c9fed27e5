use Rattle.std.proofs.Common.{◌≡◌, drop, map}
use Rattle.page_rules.specs.Views.{attribute_of}
use Rattle.page_rules.specs.Tests.{at_most_one, once_after}
use Rattle.page_rules.proofs.attributes.is_once.Given as goal

abbrev pub invariant-loop-attribute : goal.invariant-loop-attribute
invariant-loop-attribute l = once_after l.seen (map attribute_of (drop l.attribute-index l.attributes)) l.name ≡ at_most_one (map attribute_of l.attributes) l.name
