use Rattle.std.proofs.Common.{◌≡◌, drop, map, flat_map}
use Rattle.flow_code.specs.View.{plain_point}
use Rattle.loose_sets.specs.Keys.{point_keys}
use Rattle.point_listing.specs.Views.{keys_seen}
use Rattle.point_listing.specs.Collected.{told_after}
use Rattle.point_listing.proofs.collecting.tell_points.Given as goal

-- what is left to tell stands behind what is told
abbrev pub invariant-loop-point : goal.invariant-loop-point
invariant-loop-point l = told_after (keys_seen l.told.items) (flat_map point_keys (map plain_point (drop l.point-index l.points))) ≡ told_after (keys_seen l.initial.told.items) (flat_map point_keys (map plain_point l.points))
