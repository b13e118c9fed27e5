use Rattle.std.proofs.Common.{◌≡◌, drop, map, flat_map}
use Rattle.flow_code.specs.View.{plain_item}
use Rattle.loose_sets.specs.Keys.{item_key}
use Rattle.point_listing.specs.Views.{keys_seen}
use Rattle.point_listing.specs.Collected.{told_after}
use Rattle.point_listing.proofs.collecting.tell_items.Given as goal

-- what is left to tell stands behind what is told
abbrev pub invariant-loop-item : goal.invariant-loop-item
invariant-loop-item l = told_after (keys_seen l.told.items) (flat_map item_key (map plain_item (drop l.item-index l.items))) ≡ told_after (keys_seen l.initial.told.items) (flat_map item_key (map plain_item l.items))
