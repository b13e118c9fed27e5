-- The strongly connected components of a graph (Tarjan, Depth-first search and linear graph algorithms, 1972).
use Rattle.std.specs.Prelude.{◌≡◌, ◌≤◌, ◌⊎◌, ℕ, List, length, Some, slice_get}
use Rattle.smallvec.specs.SmallVec.{SmallVec}
use Rattle.strong_components.specs.Edges.{HasEdge, Leads}

-- edges lead from the one node to the other, or it is the same
abbrev pub Reaches : List (SmallVec ℕ) → ℕ → ℕ → Type 0
Reaches edges from to = (from ≡ to) ⊎ Leads edges from to

-- each node has the number of its component: an edge leads to no higher number, and nodes with one number reach one another
pub record AreComponents (edges : List (SmallVec ℕ)) (numbers : List ℕ) : Type 0 where
  pub size : length numbers ≡ length edges
  pub falls : (from to n m : ℕ) → HasEdge edges from to → slice_get numbers from ≡ Some n → slice_get numbers to ≡ Some m → m ≤ n
  pub joined : (a b n : ℕ) → slice_get numbers a ≡ Some n → slice_get numbers b ≡ Some n → Reaches edges a b
