use Rattle.std.proofs.Common.{◌≡◌, ◌++◌, drop, map, flat_map}
use Rattle.flow_code.specs.View.{plain_item}
use Rattle.point_listing.specs.Forms.{forms_seen}
use Rattle.loose_sets.specs.Arrays.{item_elsewhere}
use Rattle.point_listing.specs.Places.{told_of, at_of}
use Rattle.point_listing.proofs.arrays.push_items_elsewhere.Given as goal

-- what is left to put stands behind what is put
abbrev pub invariant-loop-item : goal.invariant-loop-item
invariant-loop-item l =
    forms_seen l.forms.items ++ flat_map (item_elsewhere (told_of l.place) (at_of l.place) l.place.point l.half) (map plain_item (drop l.item-index l.items))
    ≡ forms_seen l.initial.forms.items ++ flat_map (item_elsewhere (told_of l.place) (at_of l.place) l.place.point l.half) (map plain_item l.items)
