-- What a join joins, by numbers alone.
use Rattle.std.specs.Prelude.{ℕ, List, map}
use Rattle.ssa_form.specs.declared.versions.Versions.{Versions}
use Rattle.ssa_form.specs.Versions.{joined_by}
use Rattle.loose_sets.specs.declared.name.SetVersion.{SetVersion}
use Rattle.loose_sets.specs.Uses.{version_back}

-- of a slot at a point, in turn
abbrev pub links_seen : Versions → ℕ → ℕ → List SetVersion
links_seen versions p x = map version_back (joined_by versions p x)
