-- Sets of the loose table by what they speak of: a definition, or a use of a slot at a point.
use Rattle.std.specs.Prelude.{ℕ, Option, Some, None}
use Rattle.loose_sets.specs.Reaching.{Definition}
use Rattle.loose_sets.specs.Versions.{of_definition}
use Rattle.flow_code.specs.Points.{PlainKeyRef, PlainFlow}
use Rattle.loose_sets.specs.Keys.{told_keys}
use Rattle.loose_sets.specs.Table.{each_use}
use Rattle.loose_sets.specs.Uses.{version_back, member_name}
use Rattle.loose_sets.specs.declared.name.Half.{Half}
use Rattle.loose_sets.specs.declared.name.Aspect.{Aspect}
use Rattle.loose_sets.specs.declared.name.Aspect.TheVariants.{Own, Member, Others, Keys}
use Rattle.loose_sets.specs.declared.name.SetVersion.TheVariants.{Join}
use Rattle.loose_sets.specs.declared.name.SetName.{SetName}
use Rattle.loose_sets.specs.declared.name.SetName.TheVariants.{Value, Members, Shown}

-- of the value that a definition gives
abbrev pub set_of : Aspect → Definition → SetName
set_of b d = Value b (version_back (of_definition d))

-- of the value of a slot at a point, of all its members, and of what `echo` prints of it
abbrev pub use_of : Aspect → ℕ → ℕ → SetName
use_of b x p = Value b (Join p x)

abbrev pub all_of : Half → ℕ → ℕ → SetName
all_of h x p = Members h (Join p x)

abbrev pub shown_at : ℕ → ℕ → SetName
shown_at x p = Shown (Join p x)

-- of the members of a member no more is said than of all that stand deep
abbrev pub deeper : Aspect → Option Aspect
deeper (Own h) = None
deeper (Member i h) = Some (Others h)
deeper (Others h) = Some (Others h)
deeper Keys = Some Keys

-- what a member of the value of a slot at a point is taken from, by its key
abbrev pub member_at : PlainFlow → Half → PlainKeyRef → ℕ → ℕ → SetName
member_at flow h k x p = member_name (told_keys flow) each_use p h k x
