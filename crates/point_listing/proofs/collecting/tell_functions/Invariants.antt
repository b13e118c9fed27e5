use Rattle.std.proofs.Common.{◌≡◌, drop, map, flat_map}
use Rattle.flow_code.specs.Points.{points_in}
use Rattle.flow_code.specs.View.{plain_flow_function}
use Rattle.loose_sets.specs.Keys.{point_keys}
use Rattle.point_listing.specs.Views.{keys_seen}
use Rattle.point_listing.specs.Collected.{told_after}
use Rattle.point_listing.proofs.collecting.tell_functions.Given as goal

-- what is left to tell stands behind what is told
abbrev pub invariant-loop-function : goal.invariant-loop-function
invariant-loop-function l = told_after (keys_seen l.told.items) (flat_map point_keys (points_in (map plain_flow_function (drop l.function-index l.functions)))) ≡ told_after (keys_seen l.initial.told.items) (flat_map point_keys (points_in (map plain_flow_function l.functions)))
