use Rattle.std.proofs.Common.{◌≡◌, ◌++◌, drop}
use Rattle.point_listing.specs.Forms.{forms_seen}
use Rattle.point_listing.specs.Reading.{read_at}
use Rattle.loose_sets.specs.Functions.{used_pairs}
use Rattle.point_listing.proofs.versions.push_pairs.Given as goal

-- what is left to put stands behind what is put
abbrev pub invariant-loop-point : goal.invariant-loop-point
invariant-loop-point l =
    forms_seen l.forms.items ++ used_pairs (read_at l.versions) (drop l.point-index l.pairs) l.aspect
    ≡ forms_seen l.initial.forms.items ++ used_pairs (read_at l.versions) l.pairs l.aspect
