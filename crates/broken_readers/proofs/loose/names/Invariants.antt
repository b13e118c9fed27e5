use Rattle.std.proofs.Common.{◌≡◌, ◌++◌, length, map}
use Rattle.dtd_model.specs.Table.{Rule, rule_of}
use Rattle.broken_readers.proofs.loose.names.Given as goal

abbrev pub invariant-loop-first : goal.invariant-loop-first
invariant-loop-first l = l.names.items ++ map (λ (rule : Rule). rule.name) (map rule_of l.left) ≡ map (λ (rule : Rule). rule.name) (map rule_of l.fn.elements)

abbrev pub decreases-loop-first : goal.decreases-loop-first
decreases-loop-first l = length l.left
