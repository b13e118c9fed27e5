-- Which version of a slot is used at a point, and the sets that are named by it.
use Rattle.std.specs.Prelude.{ℕ, suc, Bool, true, false, if◌then◌else◌, List, [], ◌∷◌, Option, Some, None, slice_get, map}
use Rattle.plain_values.specs.Plain.{PlainKey}
use Rattle.plain_values.specs.Keys.{same_key}
use Rattle.flow_code.specs.Points.{PlainKeyRef}
use Rattle.least_sets.specs.Forms.{Form, same_form}
use Rattle.loose_sets.specs.Keys.{literal_key, may_be}
use Rattle.loose_sets.specs.Reaching.{at_point, at_entry}
use Rattle.loose_sets.specs.Versions.{PlainVersion, of_definition, join_at}
use Rattle.loose_sets.specs.declared.name.SetVersion.{SetVersion}
use Rattle.loose_sets.specs.declared.name.SetVersion.TheVariants.{Point, Entry, Join}
use Rattle.loose_sets.specs.declared.name.Half.{Half}
use Rattle.loose_sets.specs.declared.name.Aspect.{Aspect}
use Rattle.loose_sets.specs.declared.name.Aspect.TheVariants.{Member, Others}
use Rattle.loose_sets.specs.declared.name.SetName.{SetName}
use Rattle.loose_sets.specs.declared.name.SetName.TheVariants.{Value, Members}

-- the version that one by numbers is
abbrev pub version_seen : SetVersion → PlainVersion
version_seen (Point p) = of_definition (at_point p)
version_seen (Entry f x) = of_definition (at_entry f x)
version_seen (Join p x) = join_at p x

-- the versions that those by numbers are, in their order
abbrev pub versions_seen : List SetVersion → List PlainVersion
versions_seen vs = map version_seen vs

-- a version by numbers
abbrev pub version_back : PlainVersion → SetVersion
version_back (of_definition (at_point p)) = Point p
version_back (of_definition (at_entry f x)) = Entry f x
version_back (join_at p x) = Join p x

-- the version of a slot at a point: first the point, then the slot
abbrev pub At : Type 0
At = ℕ → ℕ → SetVersion

-- the version of a slot at a point, as plain data
abbrev pub seen_at : At → ℕ → ℕ → PlainVersion
seen_at at p x = version_seen (at p x)

-- each text of the value of a slot at a point
abbrev pub used : At → ℕ → Aspect → ℕ → Form SetName
used at p b x = same_form (Value b (at p x))

-- each text of all members of it
abbrev pub all_used : At → ℕ → Half → ℕ → Form SetName
all_used at p h x = same_form (Members h (at p x))

-- the forms, where the test holds
unfoldable pub where_so : {A : Type 0} → Bool → List A → List A
where_so true xs = xs
where_so false xs = []

-- a test of the key of a number among those that are told apart; of no key it does not hold
unfoldable pub of_told : (PlainKey → Bool) → Option PlainKey → Bool
of_told test None = false
of_told test (Some c) = test c

-- a written key, or the key that comes next, may be the one of this number
unfoldable pub may_be_at : List PlainKey → Option PlainKeyRef → ℕ → Bool
may_be_at told k i = of_told (may_be k) (slice_get told i)

-- the number of a key among those that are told apart
unfoldable pub number_from : ℕ → PlainKey → List PlainKey → Option ℕ
number_from n c [] = None
number_from n c (k ∷ ks) = if same_key c k then Some n else number_from (suc n) c ks

-- of the member under the key of a number, or of the other members
abbrev pub in_member : Half → Option ℕ → Aspect
in_member h None = Others h
in_member h (Some i) = Member i h

-- a member under a key: of the member of this key where it is told apart, of the other members where it is another literal, and of all
-- members
-- where it is no literal
abbrev pub member_under : List PlainKey → Half → SetVersion → Option PlainKey → SetName
member_under told h v None = Members h v
member_under told h v (Some c) = Value (in_member h (number_from 0 c told)) v

-- the set that a member of a slot's value at a point is taken from, by its key
unfoldable pub member_name : List PlainKey → At → ℕ → Half → PlainKeyRef → ℕ → SetName
unfolding literal_key number_from
member_name told at p h k x = member_under told h (at p x) (literal_key k)
