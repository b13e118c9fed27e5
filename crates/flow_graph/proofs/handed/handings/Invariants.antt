use Rattle.std.proofs.Common.{◌≡◌, ◌++◌, map, drop}
use Rattle.flow_code.specs.View.{plain_point, plain_flow_function}
use Rattle.flow_graph.specs.Rows.{points_seen}
use Rattle.flow_graph.specs.Handed.{handings_from}
use Rattle.flow_graph.proofs.handed.handings.Given as goal

-- what is left to put stands behind what is put
abbrev pub invariant-loop-number : goal.invariant-loop-number
invariant-loop-number l =
    l.all.items ++ handings_from (map plain_flow_function l.functions) l.number (map (λ r. plain_point r.now) (drop l.number l.row.points.items))
    ≡ handings_from (map plain_flow_function l.functions) 0 (points_seen l.row)
