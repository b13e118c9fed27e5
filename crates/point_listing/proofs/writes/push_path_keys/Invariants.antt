use Rattle.std.proofs.Common.{◌≡◌, ◌++◌, drop, map, flat_map}
use Rattle.flow_code.specs.View.{plain_maybe_key}
use Rattle.point_listing.specs.Forms.{forms_seen}
use Rattle.loose_sets.specs.Arrays.{key_forms}
use Rattle.point_listing.specs.Places.{at_of}
use Rattle.point_listing.proofs.writes.push_path_keys.Given as goal

-- what is left to put stands behind what is put
abbrev pub invariant-loop-key : goal.invariant-loop-key
invariant-loop-key l =
    forms_seen l.forms.items ++ flat_map (key_forms (at_of l.place) l.place.point) (map plain_maybe_key (drop l.key-index l.path))
    ≡ forms_seen l.initial.forms.items ++ flat_map (key_forms (at_of l.place) l.place.point) (map plain_maybe_key l.path)
