-- What a walk over the nodes keeps. No public clause cites this.
use Rattle.std.specs.Prelude.{◌≡◌, ◌<◌, ℕ, List, length, Some, slice_get}
use Rattle.std.specs.List.{Contains}
use Rattle.smallvec.specs.SmallVec.{SmallVec}
use Rattle.strong_components.specs.declared.order.Mark.{Mark}
use Rattle.strong_components.specs.declared.order.Mark.TheVariants.{New, Open, Done}
use Rattle.strong_components.specs.Edges.{Leads, IsSorted}

-- the weight of a node that is still to be looked at
abbrev pub weight_of : Mark → ℕ
weight_of New = 1
weight_of Open = 0
weight_of Done = 0

-- the nodes that are done stand in the order, which is sorted
pub record IsWalk (edges : List (SmallVec ℕ)) (marks : List Mark) (order : List ℕ) : Type 0 where
  pub size : length marks ≡ length edges
  pub listed : (node : ℕ) → slice_get marks node ≡ Some Done → Contains order node
  pub within : (node : ℕ) → Contains order node → node < length edges
  pub sorted : IsSorted edges order

-- some more nodes are done, and the same ones are open
pub record GoesOn (before after : List Mark) : Type 0 where
  pub opened : (node : ℕ) → slice_get after node ≡ Some Open → slice_get before node ≡ Some Open
  pub done : (node : ℕ) → slice_get before node ≡ Some Done → slice_get after node ≡ Some Done

-- from each open node edges lead to this one
abbrev pub LeadHere : List (SmallVec ℕ) → List Mark → ℕ → Type 0
LeadHere edges marks node = (open_node : ℕ) → slice_get marks open_node ≡ Some Open → Leads edges open_node node
