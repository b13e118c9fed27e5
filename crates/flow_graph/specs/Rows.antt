-- Points by reference, seen as plain ones.
use Rattle.std.specs.Prelude.{List, map}
use Rattle.flow_code.specs.Points.{PlainPoint}
use Rattle.flow_code.specs.View.{plain_point}
use Rattle.flow_graph.specs.declared.rows.PointRow.{PointRow}

-- the points of a row, by their numbers
abbrev pub points_seen : PointRow → List PlainPoint
points_seen row = map (λ r. plain_point r.now) row.points.items
