-- The versions of a program of points, seen as data, and what they are.
use Rattle.std.specs.Prelude.{◌≡◌, ◌≢◌, ◌≤◌, ◌+◌, ◌↔◌, nat_eq, flat_map, ℕ, suc, List, [], ◌∷◌, Option, None, Some, Contains, slice_get, length}
use Rattle.std.specs.List.{count_by}
use Rattle.std.specs.Option.{option_map}
use Rattle.numbered_sets.specs.Numbers.{AreDifferent}
use Rattle.flow_graph.specs.Found.{number_in}
use Rattle.flow_code.specs.Points.{PlainPoint, PlainFlowFunction, PlainFlow, points_in, point_at}
use Rattle.flow_code.specs.Lawful.{reads, nexts}
use Rattle.loose_sets.specs.Reaching.{Definition, Reaches}
use Rattle.loose_sets.specs.Versions.{PlainVersion, of_definition, join_at, PlainJoin, IsOnly, asked_in, linked_in, Behind, Stands, IsKept, AreLinks}
use Rattle.ssa_form.specs.declared.version.Version.{Version}
use Rattle.ssa_form.specs.declared.versions.Versions.{Versions}
use Rattle.ssa_form.specs.Views.{version_seen, versions_seen, held}
use Rattle.ssa_form.specs.JoinRows.{rows_in, row_in}
use Rattle.ssa_form.specs.Slots.{IsReadSlot}

-- joins with what each joins
abbrev pub joins_in : List (ℕ × ℕ) → List (List Version) → List PlainJoin
joins_in (k ∷ ks) (r ∷ rs) = record { point = k.0; slot = k.1; versions = versions_seen r } ∷ joins_in ks rs
joins_in ks rs = []

-- the joins, each a point and a slot
abbrev pub asks_of : Versions → List (ℕ × ℕ)
asks_of versions = versions.asks.keys

-- the rows of these, in the same order
abbrev pub rows_of : Versions → List (List Version)
rows_of versions = rows_in versions.rows

-- all joins with what each joins, in the order in which they were asked for
abbrev pub joins_of : Versions → List PlainJoin
joins_of versions = joins_in (asks_of versions) (rows_of versions)

-- no join stands twice
abbrev pub AreOnce : Versions → Type 0
AreOnce versions = AreDifferent (asks_of versions)

-- a version is one of those that a join joins
abbrev pub IsLinked : List PlainJoin → PlainVersion → PlainVersion → Type 0
IsLinked joins (of_definition d) v = ⊥
IsLinked joins (join_at p x) v = linked_in joins p x v

-- what the join of this number joins, in turn; nothing where there is none
abbrev pub row_of : List (List Version) → Option ℕ → List PlainVersion
row_of rows None = []
row_of rows (Some i) = versions_seen (row_in (slice_get rows i))

-- what the join of a slot at a point joins, in turn
abbrev pub joined_by : Versions → ℕ → ℕ → List PlainVersion
joined_by versions p x = row_of (rows_of versions) (number_in (asks_of versions) p x)

-- what a version joins, in turn; a definition nothing
abbrev pub links_of : Versions → PlainVersion → List PlainVersion
links_of versions (of_definition d) = []
links_of versions (join_at p x) = joined_by versions p x

-- the version of a slot where a point reads it
abbrev pub version_of : Versions → ℕ → ℕ → Option PlainVersion
version_of versions p x = option_map version_seen (held versions.versions p x)

-- how many edges lead to a point, and how many functions are entered there
unfoldable pub arrivals_at : PlainFlow → ℕ → ℕ
unfolding points_in nexts
arrivals_at flow p =
    count_by (λ q. nat_eq q p) (flat_map nexts (points_in flow.functions_of))
    + count_by (λ (g : PlainFlowFunction). nat_eq g.entry_of p) flow.functions_of

-- the point before goes on there alone, and nothing else leads there
pub record OnlyGoesOn (flow : PlainFlow) (p : ℕ) : Type 0 where
  pub before : ℕ
  pub follows : p ≡ suc before
  pub point : PlainPoint
  pub there : point_at flow before ≡ Some point
  pub on : nexts point ≡ p ∷ []
  pub only : IsOnly flow p before

-- what the joins are: each stands at a point, but at none to which the point before it goes on alone and nothing else leads, for a slot
-- that some point reads, and has a row; what it joins is what comes by the edges and the entries that lead to its point, no more than
-- these; and the version of a slot where a point reads it stands for it there, and is a definition or a join
pub record AreJoins (flow : PlainFlow) (versions : Versions) : Type 0 where
  pub there : (p x : ℕ) → Contains (asks_of versions) (p, x) → (i : PlainPoint) × (point_at flow p ≡ Some i)
  pub first : (p x : ℕ) → Contains (asks_of versions) (p, x) → OnlyGoesOn flow p → ⊥
  pub read : (p x : ℕ) → Contains (asks_of versions) (p, x) → IsReadSlot flow x
  pub rows : length (rows_of versions) ≡ length (asks_of versions)
  pub links : AreLinks flow (asked_in (joins_of versions)) (linked_in (joins_of versions))
  pub few : (p x : ℕ) → length (joined_by versions p x) ≤ arrivals_at flow p
  pub stands : (p x : ℕ) (v : PlainVersion) → version_of versions p x ≡ Some v → Stands flow p x v
  pub kept : (p x : ℕ) (v : PlainVersion) → version_of versions p x ≡ Some v → IsKept (asked_in (joins_of versions)) v

-- there is a version for each slot that a point reads, and the definitions behind it are exactly those that reach the point
pub record IsExact (flow : PlainFlow) (versions : Versions) : Type 0 where
  pub all : (p x : ℕ) (i : PlainPoint) → point_at flow p ≡ Some i → Contains (reads i) x → version_of versions p x ≢ None
  pub behind : (p x : ℕ) (v : PlainVersion) → version_of versions p x ≡ Some v → (d : Definition)
      → Behind (linked_in (joins_of versions)) v d ↔ Reaches flow d x p
