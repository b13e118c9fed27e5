-- The joins that are asked for, with what they join. No public clause cites it.
use Rattle.std.specs.Prelude.{◌≡◌, ◌≤◌, ◌⊎◌, ℕ, List, Some, length, Contains, slice_get}
use Rattle.numbered_sets.specs.Numbers.{Keeps}
use Rattle.flow_code.specs.Points.{PlainFlowFunction}
use Rattle.flow_graph.specs.declared.arrivals.Arrival.{Arrival}
use Rattle.loose_sets.specs.Versions.{PlainVersion, join_at, IsKept}
use Rattle.ssa_form.specs.declared.version.Version.{Version}
use Rattle.ssa_form.specs.Views.{versions_seen}
use Rattle.ssa_form.specs.Marks.{asked_by}
use Rattle.ssa_form.specs.Rows.{IsRow}

-- versions are asked for: each that is a join, and none else
pub record AsksFor (old new : List (ℕ × ℕ)) (vs : List PlainVersion) : Type 0 where
  pub kept : (v : PlainVersion) → Contains vs v → IsKept (asked_by new) v
  pub keeps : Keeps old new
  pub adds : (k : ℕ × ℕ) → Contains new k → Contains old k ⊎ Contains vs (join_at k.0 k.1)

-- the first points of rows are those of their own
abbrev pub AreFirst : List ℕ → Type 0
AreFirst heads = (q h : ℕ) → slice_get heads q ≡ Some h → slice_get heads h ≡ Some h

-- so far each join has its row, whose joins are asked for; and joins are asked for at first points of rows alone, for slots of the first
-- joins
pub record AreRows (fs : List PlainFlowFunction) (heads : List ℕ) (behind : ℕ → ℕ → PlainVersion) (all : List (ℕ × Arrival))
    (firsts asks : List (ℕ × ℕ)) (rows : List (List Version)) : Type 0 where
  pub within : length rows ≤ length asks
  pub each : (i p x : ℕ) (r : List Version) → slice_get asks i ≡ Some (p, x) → slice_get rows i ≡ Some r
      → IsRow fs heads behind all p x (versions_seen r)
  pub kept : (i : ℕ) (r : List Version) (v : PlainVersion) → slice_get rows i ≡ Some r → Contains (versions_seen r) v
      → IsKept (asked_by asks) v
  pub asked : (h x : ℕ) → Contains asks (h, x) → slice_get heads h ≡ Some h
  pub slots : (h x : ℕ) → Contains asks (h, x) → (g : ℕ) × Contains firsts (g, x)
