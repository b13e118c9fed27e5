use Rattle.std.proofs.Common.{◌≡◌, ◌++◌, drop, map}
use Rattle.flow_code.specs.Points.{points_in}
use Rattle.flow_code.specs.View.{plain_flow_function}
use Rattle.flow_graph.specs.Steps.{steps_seen, steps_of_points}
use Rattle.flow_graph.proofs.steps.of_functions.Given as goal

abbrev pub invariant-loop-function : goal.invariant-loop-function
invariant-loop-function l =
    steps_seen l.steps.items ++ steps_of_points (points_in (map plain_flow_function (drop l.function-index l.functions))) ≡ steps_seen l.initial.steps.items ++ steps_of_points (points_in (map plain_flow_function l.functions))
