use Rattle.std.proofs.Common.{◌≡◌, ◌++◌, map, drop}
use Rattle.flow_code.specs.View.{plain_point}
use Rattle.flow_graph.proofs.rows.put_points.Given as goal

-- what is left to put stands behind what is put
abbrev pub invariant-loop-point : goal.invariant-loop-point
invariant-loop-point l = map (λ r. plain_point r.now) l.row.items ++ map plain_point (drop l.point-index l.points) ≡ map (λ r. plain_point r.now) l.initial.row.items ++ map plain_point l.points
