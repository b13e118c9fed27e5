-- The forms of what is said of a version.
use Rattle.std.specs.Prelude.{ℕ, suc, List, [], ◌∷◌, codes, map}
use Rattle.plain_values.specs.Plain.{PlainKey}
use Rattle.least_sets.specs.Forms.{Form, same_form, where_form}
use Rattle.loose_sets.specs.declared.name.SetVersion.{SetVersion}
use Rattle.loose_sets.specs.declared.name.Half.{Half}
use Rattle.loose_sets.specs.declared.name.Half.TheVariants.{Text, Array}
use Rattle.loose_sets.specs.declared.name.Aspect.{Aspect}
use Rattle.loose_sets.specs.declared.name.Aspect.TheVariants.{Own, Member, Others}
use Rattle.loose_sets.specs.declared.name.SetName.{SetName}
use Rattle.loose_sets.specs.declared.name.SetName.TheVariants.{Value}
use Rattle.loose_sets.specs.Arrays.{Forms}

-- its members under the keys that are told apart, from a number on
unfoldable pub told_members : ℕ → List PlainKey → Half → SetVersion → Forms
told_members n [] h v = []
told_members n (k ∷ ks) h v = same_form (Value (Member n h) v) ∷ told_members (suc n) ks h v

-- all members of it, at any depth
unfoldable pub members_forms : List PlainKey → Half → SetVersion → Forms
unfolding told_members
members_forms told h v = same_form (Value (Others h) v) ∷ told_members 0 told h v

-- what `echo` prints of it: its text form, and `Array` for an array
unfoldable pub shown_forms : SetVersion → Forms
shown_forms v = same_form (Value (Own Text) v) ∷ where_form (codes "Array") (Value (Own Array) v) ∷ []

-- what a join takes over
abbrev pub link_form : Aspect → SetVersion → Form SetName
link_form b w = same_form (Value b w)

-- what a join takes over, one form for each version that it joins
abbrev pub link_forms : List SetVersion → Aspect → Forms
link_forms links b = map (link_form b) links
