-- What a place stands for, and forms that are put behind others.
use Rattle.std.specs.Prelude.{◌≡◌, ℕ, List, ◌++◌, Option, Some, None}
use Rattle.plain_values.specs.Plain.{PlainKey}
use Rattle.point_listing.specs.declared.form.NamedForm.{NamedForm}
use Rattle.loose_sets.specs.declared.name.Half.{Half}
use Rattle.loose_sets.specs.declared.name.Aspect.TheVariants.{Member, Others}
use Rattle.loose_sets.specs.declared.name.SetVersion.{SetVersion}
use Rattle.loose_sets.specs.declared.name.SetName.{SetName}
use Rattle.loose_sets.specs.declared.name.SetName.TheVariants.{Value, Members}
use Rattle.point_listing.specs.Forms.{forms_seen}
use Rattle.loose_sets.specs.Uses.{At}
use Rattle.loose_sets.specs.Arrays.{Forms}
use Rattle.point_listing.specs.Reading.{read_at}
use Rattle.point_listing.specs.Views.{keys_seen}
use Rattle.point_listing.specs.declared.places.Place.{Place}

-- the keys that are told apart
abbrev pub told_of : Place → List PlainKey
told_of place = keys_seen place.told.now

-- the version of a slot at a point
abbrev pub at_of : Place → At
at_of place = read_at place.versions.now

-- the forms stand behind those that were there
abbrev pub Adds : List NamedForm → List NamedForm → Forms → Type 0
Adds old new forms = forms_seen new ≡ forms_seen old ++ forms

-- a member where the key has this place among those that are told apart
abbrev pub member_placed : Half → SetVersion → Option (Option ℕ) → SetName
member_placed h v None = Members h v
member_placed h v (Some None) = Value (Others h) v
member_placed h v (Some (Some i)) = Value (Member i h) v
