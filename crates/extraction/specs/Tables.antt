-- What the tables are to hold, and the list of forms of each set by its name.
use Rattle.std.specs.Prelude.{◌≡◌, ℕ, List, [], Option, Some, None, map, slice_get}
use Rattle.flow_code.specs.Points.{PlainFlowFunction, PlainFlow, points_in}
use Rattle.flow_code.specs.View.{plain_flow}
use Rattle.loose_sets.specs.Keys.{told_keys}
use Rattle.ssa_form.specs.Versions.{IsExact, AreOnce, AreJoins}
use Rattle.loose_sets.specs.declared.name.Aspect.{Aspect}
use Rattle.loose_sets.specs.declared.name.SetVersion.TheVariants.{Point, Entry, Join}
use Rattle.loose_sets.specs.declared.name.SetName.{SetName}
use Rattle.loose_sets.specs.declared.name.SetName.TheVariants.{Value, Members, Shown, Result, Input, Output, Joined, Piece, FurtherPiece, FurtherPieces, Out}
use Rattle.loose_sets.specs.Uses.{At}
use Rattle.loose_sets.specs.Arrays.{Forms}
use Rattle.point_listing.specs.Reading.{read_at}
use Rattle.point_listing.specs.Views.{keys_seen}
use Rattle.flow_graph.specs.Rows.{points_seen}
use Rattle.flow_graph.specs.Returned.{returned_pairs}
use Rattle.flow_graph.specs.Handed.{handings_from, AreGroups}
use Rattle.flow_graph.specs.Found.{pairs_under}
use Rattle.flow_graph.specs.Tables.{pairs_seen}
use Rattle.point_listing.specs.Links.{links_seen}
use Rattle.loose_sets.specs.Functions.{used_pairs, entry_forms}
use Rattle.loose_sets.specs.Members.{members_forms, shown_forms, link_forms}
use Rattle.loose_sets.specs.Table.{point_of, forms_from, forms_there}
use Rattle.extraction.specs.Params.{AreParams, is_null}
use Rattle.extraction.specs.declared.tables.FlowTables.{FlowTables}

-- the program of the tables
abbrev pub flow_of : FlowTables → PlainFlow
flow_of t = plain_flow t.flow.now

-- the functions of the program of the tables
abbrev pub functions_of : FlowTables → List PlainFlowFunction
functions_of t = (flow_of t).functions_of

-- they hold what there is to know of the program
pub record AreTables (t : FlowTables) : Type 0 where
  pub points : points_seen t.row ≡ points_in (functions_of t)
  pub told : keys_seen t.told.items ≡ told_keys (flow_of t)
  pub exact : IsExact (flow_of t) t.versions
  pub once : AreOnce t.versions
  pub joins : AreJoins (flow_of t) t.versions
  pub returned : pairs_seen t.returned.items ≡ map (returned_pairs (points_seen t.row)) (functions_of t)
  pub handed : t.handed.all.items ≡ handings_from (functions_of t) 0 (points_seen t.row)
  pub groups : AreGroups t.handed.all.items t.handed.groups.keys.keys t.handed.groups.places.items
  pub params : AreParams (functions_of t) t.params.keys

-- the version of a slot at a point
abbrev pub at_in : FlowTables → At
at_in t = read_at t.versions

-- the pairs, or none where there is no list
abbrev pub pairs_or_none : Option (List (ℕ × ℕ)) → List (ℕ × ℕ)
pairs_or_none None = []
pairs_or_none (Some pairs) = pairs

-- what the function of a number returns
abbrev pub result_forms : FlowTables → Aspect → ℕ → Forms
result_forms t b n = used_pairs (at_in t) (pairs_or_none (slice_get (pairs_seen t.returned.items) n)) b

-- what calls hand in for a slot of a function
abbrev pub handed_in : FlowTables → ℕ → ℕ → List (ℕ × ℕ)
handed_in t n y = pairs_under t.handed.all.items t.handed.groups.keys.keys t.handed.groups.places.items n y

-- what a slot has where the function of a number is entered
abbrev pub entered_forms : FlowTables → Aspect → ℕ → ℕ → Forms
entered_forms t b n y = entry_forms (at_in t) (handed_in t n y) (is_null (functions_of t) t.params.keys n y) b

-- of a set that belongs to a version or a function
unfoldable pub further_forms : FlowTables → SetName → Forms
further_forms t (Value b (Point p)) = []
further_forms t (Value b (Entry f x)) = entered_forms t b f x
further_forms t (Value b (Join p x)) = link_forms (links_seen t.versions p x) b
further_forms t (Members h v) = members_forms (keys_seen t.told.items) h v
further_forms t (Shown v) = shown_forms v
further_forms t (Result b n) = result_forms t b n
further_forms t (Input p) = []
further_forms t (Output p) = []
further_forms t (Joined p i) = []
further_forms t (Piece p) = []
further_forms t (FurtherPiece p) = []
further_forms t (FurtherPieces p) = []
further_forms t (Out p l) = []

-- the forms of a set that belongs to a point, by its number, or of another
abbrev pub lists_from : FlowTables → SetName → Option ℕ → Forms
lists_from t n None = further_forms t n
lists_from t n (Some p) = forms_there (forms_from (keys_seen t.told.items) (functions_of t) (at_in t) n) (slice_get (points_seen t.row) p)

-- the forms of a set: from its point, if it belongs to one
abbrev pub lists_of : FlowTables → SetName → Forms
lists_of t n = lists_from t n (point_of n)
