-- Nodes, numbered from 0, and the edges from each of them.
use Rattle.std.specs.Prelude.{◌≡◌, ◌<◌, ℕ, List, length, take, Some, slice_get, ⊤}
use Rattle.std.specs.List.{Contains}
use Rattle.smallvec.specs.SmallVec.{SmallVec}
use Rattle.strong_components.specs.declared.order.OrderRefusal.{OrderRefusal}
use Rattle.strong_components.specs.declared.order.OrderRefusal.TheVariants.{Cycle, Memory}

-- an edge from one node to another
pub record HasEdge (edges : List (SmallVec ℕ)) (from to : ℕ) : Type 0 where
  pub targets : SmallVec ℕ
  pub are : slice_get edges from ≡ Some targets
  pub among : Contains targets.items to

-- each edge leads to a node
abbrev pub AreWithin : List (SmallVec ℕ) → Type 0
AreWithin edges = (from to : ℕ) → HasEdge edges from to → to < length edges

-- one edge or more lead from a node to another
pub data Leads (edges : List (SmallVec ℕ)) : ℕ → ℕ → Type 0 where
  by_edge : (from to : ℕ) → HasEdge edges from to → Leads edges from to
  onward : (from next to : ℕ) → HasEdge edges from next → Leads edges next to → Leads edges from to

-- each node of a list stands behind all those that its edges lead to
abbrev pub IsSorted : List (SmallVec ℕ) → List ℕ → Type 0
IsSorted edges order = (k from to : ℕ) → slice_get order k ≡ Some from → HasEdge edges from to → Contains (take k order) to

-- an order of all nodes
pub record IsOrder (edges : List (SmallVec ℕ)) (order : List ℕ) : Type 0 where
  pub all : (node : ℕ) → node < length edges → Contains order node
  pub within : (node : ℕ) → Contains order node → node < length edges
  pub sorted : IsSorted edges order

-- why there is none: edges lead from this node to itself
abbrev pub IsCause : List (SmallVec ℕ) → OrderRefusal → Type 0
IsCause edges (Cycle node) = Leads edges node node
IsCause edges Memory = ⊤
