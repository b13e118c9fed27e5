-- What a list of points that grows is seen as.
use Rattle.std.specs.Prelude.{map}
use Rattle.flow_code.specs.View.{plain_point}
use Rattle.flow_lowering.specs.declared.builder.PointBuilder.{PointBuilder}
use Rattle.flow_lowering.specs.Emits.{Progress}

-- the plain form of the points so far
abbrev pub progress : PointBuilder → Progress
progress b = record { first = b.first; points = map plain_point b.points.items; slot = b.slot }
