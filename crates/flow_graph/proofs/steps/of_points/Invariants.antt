use Rattle.std.proofs.Common.{◌≡◌, ◌++◌, drop, map}
use Rattle.flow_code.specs.View.{plain_point}
use Rattle.flow_graph.specs.Steps.{steps_seen, steps_of_points}
use Rattle.flow_graph.proofs.steps.of_points.Given as goal

abbrev pub invariant-loop-point : goal.invariant-loop-point
invariant-loop-point l = steps_seen l.steps.items ++ steps_of_points (map plain_point (drop l.point-index l.points)) ≡ steps_seen l.initial.steps.items ++ steps_of_points (map plain_point l.points)
