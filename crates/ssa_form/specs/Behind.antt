-- The version of a slot behind a row of points, which is looked for in the rows before it too. No public clause cites it.
use Rattle.std.specs.Prelude.{◌≡◌, ℕ, zero, suc, List, [], ◌∷◌, Option, None, Some, slice_get, Contains}
use Rattle.std.specs.declared.vec.Vec.{Vec}
use Rattle.std.specs.declared.alloc.Global.{Global}
use Rattle.indexmap.specs.IndexMap.{IndexMap}
use Rattle.flow_graph.specs.declared.arrivals.Arrival.{Arrival}
use Rattle.flow_graph.specs.declared.arrivals.Arrival.TheVariants.{Edge, Entry}
use Rattle.flow_graph.specs.Heads.{ComesFrom}
use Rattle.loose_sets.specs.Versions.{PlainVersion, of_definition, join_at}
use Rattle.ssa_form.specs.declared.rows.Found.{Found}
use Rattle.ssa_form.specs.Marks.{found_in}

-- the one number of a list that has one
abbrev pub lone : List ℕ → Option ℕ
lone [] = None
lone (n ∷ []) = Some n
lone (n ∷ m ∷ ns) = None

-- the one place of a vector that has one
abbrev pub lone_place : Option (Vec ℕ Global) → Option ℕ
lone_place None = None
lone_place (Some places) = lone places.items

-- the point from which an arrival comes by an edge
abbrev pub left_by : Arrival → Option ℕ
left_by (Edge q) = Some q
left_by (Entry f) = None

-- that of an arrival, if there is one
abbrev pub left_point : Option (ℕ × Arrival) → Option ℕ
left_point None = None
left_point (Some a) = left_by a.1

-- what stands at a place, if there is a place
abbrev pub at_place : {X : Type 0} → List X → Option ℕ → Option X
at_place xs None = None
at_place xs (Some i) = slice_get xs i

-- the first point of the row at whose end alone a point is entered
unfoldable pub row_before : List (Vec ℕ Global) → List (ℕ × Arrival) → List ℕ → ℕ → Option ℕ
row_before at all heads p = at_place heads (left_point (at_place all (lone_place (slice_get at p))))

-- a version that is found, or another one in the place of a join, where there is a row before
abbrev pub or_before : PlainVersion → Option ℕ → (ℕ → PlainVersion) → PlainVersion
or_before (of_definition d) before further = of_definition d
or_before (join_at p x) None further = join_at p x
or_before (join_at p x) (Some h) further = further h

-- the version of a slot behind a row, looked for in so many rows before it
unfoldable pub found_behind : {S : Type 0} → (ℕ → Option ℕ) → IndexMap (ℕ × ℕ) ℕ S → ℕ → ℕ → ℕ → PlainVersion
found_behind before last zero h x = found_in last h x
found_behind before last (suc n) h x = or_before (found_in last h x) (before h) (λ g. found_behind before last n g x)

-- by what the walk over the points found out
abbrev pub behind_rows : Found → ℕ → ℕ → PlainVersion
behind_rows out h x =
    found_behind (row_before out.arrivals.now.at.items out.arrivals.now.all.items out.heads.now) out.last.now out.rows_behind h x

-- one edge alone leads to a point, from a row that begins at this one
pub record IsRowBefore (all : List (ℕ × Arrival)) (heads : List ℕ) (p h : ℕ) : Type 0 where
  pub point : ℕ
  pub head : slice_get heads point ≡ Some h
  pub edge : Contains all (p, Edge point)
  pub alone : ComesFrom all p point
