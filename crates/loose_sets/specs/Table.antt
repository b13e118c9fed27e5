-- The table of the sets: for each set, by its name, in which ways its texts are made of those of others (after Minamide, Static
-- Approximation of Dynamically Generated Web Pages, WWW 2005; members by key are this project's own). What stands for a slot where it is
-- used is left open: a version for each point and slot. The loose sets have all definitions that reach the point; versions are the same
-- table at another use.
use Rattle.std.specs.Prelude.{◌≡◌, ℕ, List, [], Option, Some, None, Contains}
use Rattle.plain_values.specs.Plain.{PlainKey}
use Rattle.flow_code.specs.Points.{PlainSource, PlainPoint, set_point, PlainFlowFunction, PlainFlow, point_at}
use Rattle.least_sets.specs.Forms.{Form, same_form}
use Rattle.loose_sets.specs.Reaching.{Definition, Reaches}
use Rattle.loose_sets.specs.Keys.{told_keys}
use Rattle.loose_sets.specs.Versions.{PlainVersion, of_definition, Linked}
use Rattle.loose_sets.specs.declared.name.Aspect.{Aspect}
use Rattle.loose_sets.specs.declared.name.SetVersion.TheVariants.{Point, Entry, Join}
use Rattle.loose_sets.specs.declared.name.SetName.{SetName}
use Rattle.loose_sets.specs.declared.name.SetName.TheVariants.{Value, Members, Shown, Result, Input, Output, Joined, Piece, FurtherPiece, FurtherPieces, Out}
use Rattle.loose_sets.specs.Uses.{At, version_back}
use Rattle.loose_sets.specs.Arrays.{Forms}
use Rattle.loose_sets.specs.Points.{value_forms, source_at, joined_slots, imploded_slots, operation_of, joined_forms, piece_forms, further_forms, any_further_forms, input_forms, output_forms}
use Rattle.loose_sets.specs.Printed.{out_forms}
use Rattle.loose_sets.specs.Members.{members_forms, shown_forms}
use Rattle.loose_sets.specs.Functions.{returned_by, handed_to, is_null_slot, used_pairs, entry_forms}

-- the point sets a slot to the source
abbrev pub SetsTo : PlainFlow → ℕ → PlainSource → Type 0
SetsTo flow p source = (x : ℕ) × (next : ℕ) × (point_at flow p ≡ Some (set_point x source next))

-- the point to which the set belongs
unfoldable pub point_of : SetName → Option ℕ
point_of (Value b (Point p)) = Some p
point_of (Value b (Entry f x)) = None
point_of (Value b (Join p x)) = None
point_of (Members h v) = None
point_of (Shown v) = None
point_of (Result b n) = None
point_of (Input p) = Some p
point_of (Output p) = Some p
point_of (Joined p i) = Some p
point_of (Piece p) = Some p
point_of (FurtherPiece p) = Some p
point_of (FurtherPieces p) = Some p
point_of (Out p l) = Some p

-- its forms, from the point; a set that belongs to no point has none here
unfoldable pub forms_from : List PlainKey → List PlainFlowFunction → At → SetName → PlainPoint → Forms
unfolding value_forms source_at joined_slots imploded_slots operation_of joined_forms piece_forms further_forms any_further_forms
    input_forms output_forms out_forms
-- what the point sets its slot to, by an aspect
forms_from told fs at (Value b (Point p)) k = value_forms told at p k b
-- the texts that its operation reads, and the outputs on these
forms_from told fs at (Input p) k = input_forms at p (operation_of (source_at k))
forms_from told fs at (Output p) k = output_forms p (operation_of (source_at k))
-- the values that it joins, from one on
forms_from told fs at (Joined p i) k = joined_forms at p (joined_slots (source_at k)) i
-- a member of the array that it joins; a separator and a member; any number of these
forms_from told fs at (Piece p) k = piece_forms at p (imploded_slots (source_at k))
forms_from told fs at (FurtherPiece p) k = further_forms at p (imploded_slots (source_at k))
forms_from told fs at (FurtherPieces p) k = any_further_forms p (imploded_slots (source_at k))
-- what is printed from the point on
forms_from told fs at (Out p l) k = out_forms fs at p k l
forms_from told fs at _ k = []

-- where there is no such point, there is no row
abbrev pub forms_there : (PlainPoint → Forms) → Option PlainPoint → Forms
forms_there forms None = []
forms_there forms (Some k) = forms k

-- the forms of a set that belongs to a function or a version; what a join takes over is no form of this table
unfoldable pub forms_beside : At → PlainFlow → SetName → Forms
-- a slot at the entry of a function: what calls hand in, or null
forms_beside at flow (Value b (Entry n y)) = entry_forms at (handed_to flow n y) (is_null_slot flow n y) b
-- all members of a value, under the keys that are told apart and elsewhere
forms_beside at flow (Members h v) = members_forms (told_keys flow) h v
-- what `echo` prints of it
forms_beside at flow (Shown v) = shown_forms v
-- the results of a function: the values of the slots that it returns
forms_beside at flow (Result b n) = used_pairs at (returned_by flow n) b
forms_beside at flow _ = []

-- from its point, if it belongs to one
abbrev pub forms_by : At → PlainFlow → SetName → Option ℕ → Forms
forms_by at flow n None = forms_beside at flow n
forms_by at flow n (Some p) = forms_there (forms_from (told_keys flow) flow.functions_of at n) (point_at flow p)

-- the table
abbrev pub forms : At → PlainFlow → SetName → Forms
forms at flow n = forms_by at flow n (point_of n)

-- a row: a form of the table; and what comes together at a point takes over each version that comes
pub data RowBy (at : At) (linked : Linked) (flow : PlainFlow) : SetName → Form SetName → Type 0 where
  listed : (n : SetName) (f : Form SetName) → Contains (forms at flow n) f → RowBy at linked flow n f
  joined : (b : Aspect) (p x : ℕ) (v : PlainVersion) → linked p x v
      → RowBy at linked flow (Value b (Join p x)) (same_form (Value b (version_back v)))

-- each use of a slot has a set of its own
abbrev pub each_use : At
each_use p x = Join p x

-- and takes over all definitions that reach it
abbrev pub reaching : PlainFlow → Linked
reaching flow p x v = (d : Definition) × (v ≡ of_definition d) × Reaches flow d x p

-- the rows of the loose sets
abbrev pub Row : PlainFlow → SetName → Form SetName → Type 0
Row flow = RowBy each_use (reaching flow) flow
