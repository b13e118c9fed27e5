use Rattle.std.proofs.Common.{◌≡◌, drop, map, flat_map}
use Rattle.flow_code.specs.View.{plain_maybe_key}
use Rattle.loose_sets.specs.Keys.{maybe_listed}
use Rattle.point_listing.specs.Views.{keys_seen}
use Rattle.point_listing.specs.Collected.{told_after}
use Rattle.point_listing.proofs.collecting.tell_path.Given as goal

-- what is left to tell stands behind what is told
abbrev pub invariant-loop-key : goal.invariant-loop-key
invariant-loop-key l = told_after (keys_seen l.told.items) (flat_map maybe_listed (map plain_maybe_key (drop l.key-index l.path))) ≡ told_after (keys_seen l.initial.told.items) (flat_map maybe_listed (map plain_maybe_key l.path))
