-- What is read where a version is held, and where none is.
use Rattle.std.proofs.Common.{◌≡◌, ℕ, Option, Some, None, sym, ◌∙◌, ap}
use Rattle.std.specs.Option.{option_map}
use Rattle.loose_sets.specs.Versions.{PlainVersion}
use Rattle.ssa_form.specs.declared.version.Version.{Version}
use Rattle.ssa_form.specs.Views as ssa
use Rattle.loose_sets.specs.declared.name.SetVersion.{SetVersion}
use Rattle.loose_sets.specs.declared.name.SetVersion.TheVariants as version
use Rattle.loose_sets.specs.Uses.{version_back}
use Rattle.point_listing.specs.Reading.{or_join}

pub read_some : (p x : ℕ) (w : Option PlainVersion) (o : Option Version) (v : Version) (r : SetVersion) → option_map ssa.version_seen o ≡ w → o ≡ Some v → r ≡ version_back (ssa.version_seen v) → r ≡ or_join p x w
read_some p x w o v r is some back = back ∙ ap (or_join p x) (ap (option_map ssa.version_seen) (sym some) ∙ is)

pub read_none : (p x : ℕ) (w : Option PlainVersion) (o : Option Version) → option_map ssa.version_seen o ≡ w → o ≡ None → version.Join p x ≡ or_join p x w
read_none p x w o is none = ap (or_join p x) (ap (option_map ssa.version_seen) (sym none) ∙ is)
