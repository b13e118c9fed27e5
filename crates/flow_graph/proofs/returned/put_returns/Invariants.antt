use Rattle.std.proofs.Common.{◌≡◌, ◌+◌, ◌-◌, ◌++◌}
use Rattle.flow_graph.specs.Rows.{points_seen}
use Rattle.flow_graph.specs.Returned.{returned_from}
use Rattle.flow_graph.proofs.returned.put_returns.Given as goal

-- what is left to put stands behind what is put
abbrev pub invariant-loop-place : goal.invariant-loop-place
invariant-loop-place l =
    l.pairs.items ++ returned_from (points_seen l.row) (l.first + l.place) (l.count - l.place)
    ≡ l.initial.pairs.items ++ returned_from (points_seen l.row) l.first l.count
