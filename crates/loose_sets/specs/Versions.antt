-- Versions of a slot at a point, and the definitions behind them (static single assignment: Cytron and others, 1991, but a join may stand
-- at each point that does not only go on from the one before it, so that no dominators are needed; where all that comes to a join is one
-- version, or that join itself, the version stands for it: Braun and others, Simple and Efficient Construction of Static Single Assignment
-- Form, 2013, 3.1).
use Rattle.std.specs.Prelude.{◌≡◌, ◌≢◌, ◌⊎◌, ⊤, ℕ, List, Some, Contains}
use Rattle.flow_code.specs.Points.{PlainPoint, PlainFlowFunction, PlainFlow, point_at, function_at}
use Rattle.flow_code.specs.Lawful.{sets, nexts, IsOwnSlot}
use Rattle.loose_sets.specs.Reaching.{Definition, at_point, at_entry}

-- a definition, or the join of the versions of a slot that come together at a point
pub data PlainVersion : Type 0 where
  of_definition : Definition → PlainVersion
  join_at : ℕ → ℕ → PlainVersion

-- an edge leads from the one point to the other
pub record Edge (flow : PlainFlow) (from to : ℕ) : Type 0 where
  pub point : PlainPoint
  pub there : point_at flow from ≡ Some point
  pub leads : Contains (nexts point) to

-- the point sets the slot; it leaves it as it was
pub record Sets (flow : PlainFlow) (p x : ℕ) : Type 0 where
  pub point : PlainPoint
  pub there : point_at flow p ≡ Some point
  pub it : sets point ≡ Some x

-- the point does not set the slot
pub record Leaves (flow : PlainFlow) (p x : ℕ) : Type 0 where
  pub point : PlainPoint
  pub there : point_at flow p ≡ Some point
  pub not_it : sets point ≢ Some x

-- one edge alone leads into the point, from the other one, and no function is entered there
pub record IsOnly (flow : PlainFlow) (p before : ℕ) : Type 0 where
  pub edge : Edge flow before p
  pub alone : (q : ℕ) → Edge flow q p → q ≡ before
  pub inside : (f : ℕ) (g : PlainFlowFunction) → function_at flow f ≡ Some g → p ≡ g.entry_of → ⊥

-- a function that has the slot of its own is entered at the point
pub record Enters (flow : PlainFlow) (f p x : ℕ) : Type 0 where
  pub function : PlainFlowFunction
  pub there : function_at flow f ≡ Some function
  pub own : IsOwnSlot function x
  pub entry : p ≡ function.entry_of

-- all that comes to a point is one version: by each edge it comes, or the join at the point itself; by each entry it comes; and by one edge
-- or entry it does
pub record IsOneVersion (flow : PlainFlow) (p x : ℕ) (v : PlainVersion) (comes : (q : ℕ) → Edge flow q p → PlainVersion) : Type 0 where
  pub by_set : (q : ℕ) (e : Edge flow q p) → Sets flow q x → comes q e ≡ of_definition (at_point q)
  pub by_edge : (q : ℕ) (e : Edge flow q p) → (comes q e ≡ v) ⊎ (comes q e ≡ join_at p x)
  pub by_entry : (f : ℕ) → Enters flow f p x → v ≡ of_definition (at_entry f x)
  pub some : ((q : ℕ) × (e : Edge flow q p) × (comes q e ≡ v)) ⊎ ((f : ℕ) × Enters flow f p x)

-- the version stands for the slot at the point: backwards from it by points with one edge into them, up to a point that sets the slot, or
-- to one where a join is made, or to one where all that comes is this version
pub data Stands (flow : PlainFlow) : ℕ → ℕ → PlainVersion → Type 0 where
  here : (p x : ℕ) → Stands flow p x (join_at p x)
  set_before : (p q x : ℕ) → IsOnly flow p q → Sets flow q x → Stands flow p x (of_definition (at_point q))
  left_before : (p q x : ℕ) (v : PlainVersion) → IsOnly flow p q → Leaves flow q x → Stands flow q x v → Stands flow p x v
  alike : (p x : ℕ) (v : PlainVersion) (comes : (q : ℕ) → Edge flow q p → PlainVersion) → IsOneVersion flow p x v comes
      → ((q : ℕ) (e : Edge flow q p) → Leaves flow q x → Stands flow q x (comes q e)) → Stands flow p x v

-- what a join of a slot at a point joins: a version for each edge into it, and the entry's where a function is entered there
pub data Link (flow : PlainFlow) : ℕ → ℕ → PlainVersion → Type 0 where
  from_set : (p q x : ℕ) → Edge flow q p → Sets flow q x → Link flow p x (of_definition (at_point q))
  from_left : (p q x : ℕ) (v : PlainVersion) → Edge flow q p → Leaves flow q x → Stands flow q x v → Link flow p x v
  from_entry : (f x : ℕ) (g : PlainFlowFunction) → function_at flow f ≡ Some g → IsOwnSlot g x
      → Link flow g.entry_of x (of_definition (at_entry f x))

-- the joins that are asked for: of a slot at a point
abbrev pub Asked : Type 1
Asked = ℕ → ℕ → Type 0

-- the links that are kept: of a join of a slot at a point, to a version
abbrev pub Linked : Type 1
Linked = ℕ → ℕ → PlainVersion → Type 0

-- a definition, or a join that is asked for
abbrev pub IsKept : Asked → PlainVersion → Type 0
IsKept asked (of_definition d) = ⊤
IsKept asked (join_at p x) = asked p x

-- each kept link is one, to a version that is kept; and a join that is asked for has one for each edge into its point, and for the entry
pub record AreLinks (flow : PlainFlow) (asked : Asked) (linked : Linked) : Type 0 where
  pub each : (p x : ℕ) (v : PlainVersion) → linked p x v → Link flow p x v
  pub closed : (p x : ℕ) (v : PlainVersion) → linked p x v → IsKept asked v
  pub set : (p q x : ℕ) → asked p x → Edge flow q p → Sets flow q x → linked p x (of_definition (at_point q))
  pub left : (p q x : ℕ) → asked p x → Edge flow q p → Leaves flow q x → (v : PlainVersion) × linked p x v × Stands flow q x v
  pub entry : (f x : ℕ) (g : PlainFlowFunction) → function_at flow f ≡ Some g → IsOwnSlot g x → asked g.entry_of x
      → linked g.entry_of x (of_definition (at_entry f x))

-- the definitions behind a version
pub data Behind (linked : Linked) : PlainVersion → Definition → Type 0 where
  itself : (d : Definition) → Behind linked (of_definition d) d
  joined : (p x : ℕ) (v : PlainVersion) (d : Definition) → linked p x v → Behind linked v d → Behind linked (join_at p x) d

-- a join of a slot at a point, with the versions that it joins
pub record PlainJoin : Type 0 where
  pub point : ℕ
  pub slot : ℕ
  pub versions : List PlainVersion

-- the joins of a list, and their links
abbrev pub asked_in : List PlainJoin → Asked
asked_in joins p x = (vs : List PlainVersion) × Contains joins (record { point = p; slot = x; versions = vs })

-- the links of the joins of a list
abbrev pub linked_in : List PlainJoin → Linked
linked_in joins p x v = (vs : List PlainVersion) × Contains joins (record { point = p; slot = x; versions = vs }) × Contains vs v
