use Rattle.std.proofs.Common.{◌≡◌, ◌++◌, drop, map}
use Rattle.point_listing.specs.Forms.{forms_seen}
use Rattle.ssa_form.specs.Views.{version_seen}
use Rattle.loose_sets.specs.Uses.{version_back}
use Rattle.loose_sets.specs.Members.{link_forms}
use Rattle.point_listing.proofs.joins.push_all.Given as goal

-- what is left to put stands behind what is put
abbrev pub invariant-loop-link : goal.invariant-loop-link
invariant-loop-link l =
    forms_seen l.forms.items ++ link_forms (map version_back (map version_seen (drop l.link-index l.links))) l.aspect
    ≡ forms_seen l.initial.forms.items ++ link_forms (map version_back (map version_seen l.links)) l.aspect
