-- What is known of slots while the points are walked once in a row. No public clause cites it.
use Rattle.std.specs.Prelude.{◌≡◌, ◌≢◌, ◌⊎◌, ◌≤◌, ◌<◌, ℕ, suc, List, ◌++◌, length, Option, Some, None, Contains, slice_get}
use Rattle.indexmap.specs.IndexMap.{IndexMap}
use Rattle.flow_code.specs.Points.{PlainPoint, PlainFlow, points_in, point_at}
use Rattle.flow_code.specs.Lawful.{reads}
use Rattle.flow_graph.specs.declared.arrivals.Arrival.{Arrival}
use Rattle.flow_graph.specs.Steps.{PlainStep, step_of_point, steps_of_points}
use Rattle.flow_graph.specs.Arrivals.{from_steps, from_functions}
use Rattle.flow_graph.specs.Heads.{AreHeads, RowsGoOn}
use Rattle.loose_sets.specs.Reaching.{at_point}
use Rattle.loose_sets.specs.Versions.{PlainVersion, of_definition, join_at, Sets, Leaves, IsOnly, Stands, Asked, IsKept}
use Rattle.ssa_form.specs.declared.marks.Marks.{Marks}
use Rattle.ssa_form.specs.declared.version.Version.{Version}
use Rattle.ssa_form.specs.Views.{version_seen, held}
use Rattle.ssa_form.specs.Slots.{IsReadSlot}

-- the version of a slot in a row of points: its last definition there, or else the join at the row's first point
abbrev pub found : Option ℕ → ℕ → ℕ → PlainVersion
found (Some q) h x = of_definition (at_point q)
found None h x = join_at h x

-- the version of a slot by the last definitions that a map holds for a row of points, which is named by its first point
abbrev pub found_in : {S : Type 0} → IndexMap (ℕ × ℕ) ℕ S → ℕ → ℕ → PlainVersion
found_in last h x = found (held last h x) h x

-- the version of a slot behind a point
pub data Leaving (flow : PlainFlow) : ℕ → ℕ → PlainVersion → Type 0 where
  set : (q x : ℕ) → Sets flow q x → Leaving flow q x (of_definition (at_point q))
  left : (q x : ℕ) (v : PlainVersion) → Leaves flow q x → Stands flow q x v → Leaving flow q x v

-- the points so far: behind each that is the last of its row so far, the versions are those that are found
pub record AreLast (flow : PlainFlow) (heads : List ℕ) (marks : Marks) (n : ℕ) : Type 0 where
  pub nothing : (h x : ℕ) → n ≤ h → held marks.last h x ≡ None
  pub ends : (q h : ℕ) → q < n → slice_get heads q ≡ Some h → (suc q ≡ n) ⊎ (slice_get heads (suc q) ≢ Some h) → (x : ℕ)
      → Leaving flow q x (found_in marks.last h x)

-- the joins that are asked for
abbrev pub asked_by : List (ℕ × ℕ) → Asked
asked_by asks p x = Contains asks (p, x)

-- a version that is held for a slot that a point reads stands for it, and is asked for where it is a join
pub record IsRead (flow : PlainFlow) (asks : List (ℕ × ℕ)) (p x : ℕ) (v : PlainVersion) : Type 0 where
  pub stands : Stands flow p x v
  pub kept : IsKept (asked_by asks) v

-- all that is known so far: the last definitions; each version that is held; that one is held for each slot that is read; and that joins
-- are asked for at the first points of rows alone, for slots that points read
pub record AreMarked (flow : PlainFlow) (heads : List ℕ) (marks : Marks) (n : ℕ) : Type 0 where
  pub last : AreLast flow heads marks n
  pub each : (p x : ℕ) (v : Version) → held marks.versions p x ≡ Some v → IsRead flow marks.asks.keys p x (version_seen v)
  pub all : (p x : ℕ) (i : PlainPoint) → p < n → point_at flow p ≡ Some i → Contains (reads i) x → held marks.versions p x ≢ None
  pub asked : (h x : ℕ) → Contains marks.asks.keys (h, x) → slice_get heads h ≡ Some h
  pub slots : (h x : ℕ) → Contains marks.asks.keys (h, x) → IsReadSlot flow x

-- versions more are held, for slots that a point reads in the row that begins at a point
pub record Reads (old new : Marks) (head point : ℕ) (slots : List ℕ) : Type 0 where
  pub last : new.last ≡ old.last
  pub each : (p x : ℕ) (v : Version) → held new.versions p x ≡ Some v
      → (held old.versions p x ≡ Some v)
      ⊎ ((p ≡ point) × (version_seen v ≡ found_in old.last head x) × IsKept (asked_by new.asks.keys) (version_seen v))
  pub all : (x : ℕ) → Contains slots x → held new.versions point x ≢ None
  pub grows : (p x : ℕ) → held old.versions p x ≢ None → held new.versions p x ≢ None
  pub asks : (h x : ℕ) → Contains new.asks.keys (h, x) → Contains old.asks.keys (h, x) ⊎ ((h ≡ head) × Contains slots x)
  pub keeps : (h x : ℕ) → Contains old.asks.keys (h, x) → Contains new.asks.keys (h, x)

-- the steps, the arrivals and the first points of rows are those of the program
pub record IsGraph (flow : PlainFlow) (steps : List PlainStep) (all : List (ℕ × Arrival)) (heads : List ℕ) : Type 0 where
  pub steps_are : steps ≡ steps_of_points (points_in flow.functions_of)
  pub all_are : all ≡ from_steps (length steps) 0 steps ++ from_functions (length steps) 0 flow.functions_of
  pub heads_are : AreHeads steps all heads
  pub go_on : RowsGoOn steps all heads
  pub long : length heads ≡ length steps

-- a point with the first point of its row, and what it does
pub record IsPoint (flow : PlainFlow) (heads : List ℕ) (h p : ℕ) (step : PlainStep) : Type 0 where
  pub head : slice_get heads p ≡ Some h
  pub before : h ≤ p
  pub first : slice_get heads h ≡ Some h
  pub apart : (q : ℕ) → q < p → slice_get heads q ≡ Some h → slice_get heads (suc q) ≡ Some h
  pub point : PlainPoint
  pub there : point_at flow p ≡ Some point
  pub is : step ≡ step_of_point point
  pub follows : (h ≡ p) ⊎ ((b : ℕ) × (p ≡ suc b) × (slice_get heads b ≡ Some h) × IsOnly flow p b)
