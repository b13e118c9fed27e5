use Rattle.std.proofs.Common.{◌≡◌, ◌++◌, drop}
use Rattle.point_listing.specs.Forms.{forms_seen}
use Rattle.point_listing.specs.Views.{keys_seen}
use Rattle.loose_sets.specs.Members.{told_members}
use Rattle.point_listing.proofs.versions.push_members.Given as goal

-- what is left to put stands behind what is put
abbrev pub invariant-loop-number : goal.invariant-loop-number
invariant-loop-number l =
    forms_seen l.forms.items ++ told_members l.number (keys_seen (drop l.number l.told)) l.half l.version
    ≡ forms_seen l.initial.forms.items ++ told_members 0 (keys_seen l.told) l.half l.version
