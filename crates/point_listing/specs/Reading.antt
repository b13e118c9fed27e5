-- The version of a slot at a point, by numbers alone.
use Rattle.std.specs.Prelude.{ℕ, Option, Some, None}
use Rattle.loose_sets.specs.Versions.{PlainVersion}
use Rattle.ssa_form.specs.declared.versions.Versions.{Versions}
use Rattle.ssa_form.specs.Versions.{version_of}
use Rattle.loose_sets.specs.declared.name.SetVersion.{SetVersion}
use Rattle.loose_sets.specs.declared.name.SetVersion.TheVariants as version
use Rattle.loose_sets.specs.Uses.{At, version_back}

-- where none is held, a join at the point
abbrev pub or_join : ℕ → ℕ → Option PlainVersion → SetVersion
or_join p x (Some v) = version_back v
or_join p x None = version.Join p x

-- the version of a slot at a point; a join at the point where none is held
abbrev pub read_at : Versions → At
read_at versions p x = or_join p x (version_of versions p x)
