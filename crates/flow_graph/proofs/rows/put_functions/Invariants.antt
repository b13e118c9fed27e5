use Rattle.std.proofs.Common.{◌≡◌, ◌++◌, map, drop}
use Rattle.flow_code.specs.Points.{points_in}
use Rattle.flow_code.specs.View.{plain_point, plain_flow_function}
use Rattle.flow_graph.proofs.rows.put_functions.Given as goal

-- what is left to put stands behind what is put
abbrev pub invariant-loop-function : goal.invariant-loop-function
invariant-loop-function l =
    map (λ r. plain_point r.now) l.row.items ++ points_in (map plain_flow_function (drop l.function-index l.functions))
    ≡ map (λ r. plain_point r.now) l.initial.row.items ++ points_in (map plain_flow_function l.functions)
