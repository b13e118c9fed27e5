use Rattle.std.proofs.Common.{◌≡◌, ◌+◌, ◌-◌, drop, length}
use Rattle.std.specs.Option.{option_map}
use Rattle.expr_evaluator.specs.VariablesView.{place}
use Rattle.expr_evaluator.proofs.variables.place_of.Given as goal

abbrev pub invariant-loop-index : goal.invariant-loop-index
invariant-loop-index l = place l.name l.parameters ≡ option_map (λ k. l.index + k) (place l.name (drop l.index l.parameters))

abbrev pub decreases-loop-index : goal.decreases-loop-index
decreases-loop-index l = length l.parameters - l.index
