-- Which versions are exact, and what a set is by versions.
use Rattle.std.specs.Prelude.{◌≡◌, ◌↔◌, ⊤, ℕ, Some, Contains}
use Rattle.flow_code.specs.Points.{PlainPoint, PlainFlow, point_at}
use Rattle.flow_code.specs.Lawful.{reads}
use Rattle.loose_sets.specs.Reaching.{Definition, Reaches}
use Rattle.loose_sets.specs.Versions.{Linked, Behind}
use Rattle.loose_sets.specs.Uses.{At, seen_at}
use Rattle.loose_sets.specs.declared.name.SetVersion.{SetVersion}
use Rattle.loose_sets.specs.declared.name.SetVersion.TheVariants.{Point, Entry, Join}
use Rattle.loose_sets.specs.declared.name.SetName.{SetName}
use Rattle.loose_sets.specs.declared.name.SetName.TheVariants.{Value, Members, Shown}

-- the point reads the slot
pub record ReadsSlot (flow : PlainFlow) (p x : ℕ) : Type 0 where
  pub point : PlainPoint
  pub there : point_at flow p ≡ Some point
  pub it : Contains (reads point) x

-- the definitions behind the version of a slot where it is read are those that reach the point
pub record AreExact (flow : PlainFlow) (linked : Linked) (at : At) : Type 0 where
  pub behind : (p x : ℕ) → ReadsSlot flow p x → (d : Definition) → Behind linked (seen_at at p x) d ↔ Reaches flow d x p

-- what comes together at a point has the version of the slot there; a definition is its own
abbrev pub version_by : At → SetVersion → SetVersion
version_by at (Point p) = Point p
version_by at (Entry f x) = Entry f x
version_by at (Join p x) = at p x

-- a set by its version
unfoldable pub by_version : At → SetName → SetName
by_version at (Value b v) = Value b (version_by at v)
by_version at (Members h v) = Members h (version_by at v)
by_version at (Shown v) = Shown (version_by at v)
by_version at n = n

-- the point reads the slot that comes together there
abbrev pub IsReadVersion : PlainFlow → SetVersion → Type 0
IsReadVersion flow (Point p) = ⊤
IsReadVersion flow (Entry f x) = ⊤
IsReadVersion flow (Join p x) = ReadsSlot flow p x

-- it is what comes together at a point, which reads the slot
abbrev pub IsReadUse : PlainFlow → SetVersion → Type 0
IsReadUse flow (Point p) = ⊥
IsReadUse flow (Entry f x) = ⊥
IsReadUse flow (Join p x) = ReadsSlot flow p x

-- where a set speaks of what comes together at a point, the point reads the slot; the sets of all members and of what is printed do
unfoldable pub IsRead : PlainFlow → SetName → Type 0
IsRead flow (Value b v) = IsReadVersion flow v
IsRead flow (Members h v) = IsReadUse flow v
IsRead flow (Shown v) = IsReadUse flow v
IsRead flow n = ⊤
