use Rattle.std.proofs.Common.{◌≡◌, length}
use Rattle.dtd_texts.specs.Heads.{is_attribute_value}
use Rattle.dtd_declarations.proofs.references.is_attribute_value.Given as goal

abbrev pub invariant-loop-first : goal.invariant-loop-first
invariant-loop-first l = is_attribute_value l.rest ≡ is_attribute_value l.fn.value

abbrev pub decreases-loop-first : goal.decreases-loop-first
decreases-loop-first l = length l.rest
