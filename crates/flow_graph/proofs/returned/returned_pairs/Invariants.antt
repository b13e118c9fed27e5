use Rattle.std.proofs.Common.{◌≡◌, ◌++◌, map, drop}
use Rattle.flow_code.specs.View.{plain_flow_function}
use Rattle.flow_graph.specs.Rows.{points_seen}
use Rattle.flow_graph.specs.Returned as spec
use Rattle.flow_graph.specs.Tables.{pairs_seen}
use Rattle.flow_graph.proofs.returned.returned_pairs.Given as goal

-- what is left to put stands behind what is put
abbrev pub invariant-loop-function : goal.invariant-loop-function
invariant-loop-function l =
    pairs_seen l.all.items ++ map (spec.returned_pairs (points_seen l.row)) (map plain_flow_function (drop l.function-index l.functions))
    ≡ map (spec.returned_pairs (points_seen l.row)) (map plain_flow_function l.functions)
