use Rattle.std.proofs.Common.{◌≡◌, drop}
use Rattle.plain_values.specs.Plain.{int_key}
use Rattle.loose_sets.specs.Uses.{number_from}
use Rattle.point_listing.specs.Views.{keys_seen}
use Rattle.point_listing.proofs.key.place_of_int.Given as goal

-- it stands where it stands among those that are left
abbrev pub invariant-loop-place : goal.invariant-loop-place
invariant-loop-place l = number_from l.place (int_key l.number) (keys_seen (drop l.place l.told)) ≡ number_from 0 (int_key l.number) (keys_seen l.told)
