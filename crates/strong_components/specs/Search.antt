-- What the search for components keeps. No public clause cites this.
use Rattle.std.specs.Prelude.{◌≡◌, ◌<◌, ◌≤◌, ◌+◌, ℕ, List, [], ◌∷◌, length, Some, slice_get, nat_le, if◌then◌else◌}
use Rattle.std.specs.List.{Contains, sum_by}
use Rattle.smallvec.specs.SmallVec.{SmallVec}
use Rattle.strong_components.specs.Edges.{HasEdge}
use Rattle.strong_components.specs.Components.{Reaches}
use Rattle.strong_components.specs.declared.marks.Mark.{Mark}
use Rattle.strong_components.specs.declared.marks.Mark.TheVariants.{New, Open, Done}
use Rattle.strong_components.specs.declared.marks.Waiting.{Waiting}

-- the work that is left at a node: its edges, and opening and closing it
abbrev pub weight_of : Mark → ℕ
weight_of (New degree) = degree + 2
weight_of (Open place) = 0
weight_of (Done number) = 0

-- the edges of a node are put on the stack
abbrev pub waits : ℕ → List ℕ → List Waiting → List Waiting
waits from [] rest = rest
waits from (to ∷ targets) rest = waits from targets (record { from = from; to = to } ∷ rest)

-- without the beginnings of groups behind a place
abbrev pub kept : ℕ → List ℕ → List ℕ
kept place [] = []
kept place (s ∷ rest) = if nat_le s place then s ∷ rest else kept place rest

-- each beginning is behind those under it
abbrev pub Rises : List ℕ → Type 0
Rises [] = Unit {0}
Rises (s ∷ rest) = ((t : ℕ) → Contains rest t → t < s) × Rises rest

-- an edge leads from no earlier place than those under it
abbrev pub IsSorted : List Waiting → Type 0
IsSorted [] = Unit {0}
IsSorted (w ∷ rest) = ((x : Waiting) → Contains rest x → x.from ≤ w.from) × IsSorted rest

-- no group begins behind the second place and not behind the first: so the second is in the group of the first, or in a later one
abbrev pub Back : List ℕ → ℕ → ℕ → Type 0
Back starts p q = (s : ℕ) → Contains starts s → s ≤ p → s ≤ q

-- the node is done, with no higher number
pub record IsDoneBelow (marks : List Mark) (n v : ℕ) : Type 0 where
  pub number : ℕ
  pub is : slice_get marks v ≡ Some (Done number)
  pub below : number ≤ n

-- where an edge from a place of the path leads: to a node that is done, to the path, or it is still to be followed
pub data IsExplored (marks : List Mark) (path starts : List ℕ) (waiting : List Waiting) (p v : ℕ) : Type 0 where
  is_done : (n : ℕ) → slice_get marks v ≡ Some (Done n) → IsExplored marks path starts waiting p v
  is_open : (q : ℕ) → slice_get path q ≡ Some v → Back starts p q → IsExplored marks path starts waiting p v
  is_waiting : Contains waiting (record { from = p; to = v }) → IsExplored marks path starts waiting p v

-- a group begins at the place or before it
pub record IsGrounded (starts : List ℕ) (p : ℕ) : Type 0 where
  pub start : ℕ
  pub has : Contains starts start
  pub before : start ≤ p

-- the path goes through groups of nodes that reach one another (Gabow, Path-based depth-first search for strong and biconnected components,
-- 2000)
pub record IsSearch (edges : List (SmallVec ℕ)) (marks : List Mark) (path starts : List ℕ) (waiting : List Waiting) (found : ℕ) :
    Type 0 where
  pub size : length marks ≡ length edges
  pub degrees : (u degree : ℕ) (targets : SmallVec ℕ) → slice_get marks u ≡ Some (New degree) → slice_get edges u ≡ Some targets
      → degree ≡ length targets.items
  pub placed : (u p : ℕ) → slice_get marks u ≡ Some (Open p) → slice_get path p ≡ Some u
  pub opened : (p u : ℕ) → slice_get path p ≡ Some u → slice_get marks u ≡ Some (Open p)
  pub joined : (p q u v : ℕ) → slice_get path p ≡ Some u → slice_get path q ≡ Some v → Back starts p q → Reaches edges u v
  pub closed : (u n v : ℕ) → slice_get marks u ≡ Some (Done n) → HasEdge edges u v → IsDoneBelow marks n v
  pub same : (u v n : ℕ) → slice_get marks u ≡ Some (Done n) → slice_get marks v ≡ Some (Done n) → Reaches edges u v
  pub below : (u n : ℕ) → slice_get marks u ≡ Some (Done n) → n < found
  pub explored : (p u v : ℕ) → slice_get path p ≡ Some u → HasEdge edges u v → IsExplored marks path starts waiting p v
  pub waiting_edge : (w : Waiting) → Contains waiting w → (u : ℕ) × (slice_get path w.from ≡ Some u) × HasEdge edges u w.to
  pub sorted : IsSorted waiting
  pub starts_in : (s : ℕ) → Contains starts s → s < length path
  pub rises : Rises starts
  pub grounded : (p : ℕ) → p < length path → IsGrounded starts p

-- a node's mark is that of its component, or what it was
pub data IsClosedMark (marks : List Mark) (path : List ℕ) (n number u : ℕ) (m : Mark) : Type 0 where
  now_done : (p : ℕ) → n ≤ p → slice_get path p ≡ Some u → m ≡ Done number → IsClosedMark marks path n number u m
  as_before : slice_get marks u ≡ Some m → ((p : ℕ) → n ≤ p → slice_get path p ≡ Some u → ⊥) → IsClosedMark marks path n number u m

-- the nodes at the places of the path from n on are done, with this number
pub record Closes (marks : List Mark) (path : List ℕ) (n number : ℕ) (after : List Mark) : Type 0 where
  pub long : length after ≡ length marks
  pub cases : (u : ℕ) (m : Mark) → slice_get after u ≡ Some m → IsClosedMark marks path n number u m
  pub done : (p u : ℕ) → n ≤ p → slice_get path p ≡ Some u → slice_get after u ≡ Some (Done number)
  pub kept : (u : ℕ) (m : Mark) → slice_get marks u ≡ Some m → ((p : ℕ) → n ≤ p → slice_get path p ≡ Some u → ⊥)
      → slice_get after u ≡ Some m
  pub weight : sum_by weight_of after ≤ sum_by weight_of marks

-- no more nodes are new
abbrev pub FewerNew : List Mark → List Mark → Type 0
FewerNew before after = (u degree : ℕ) → slice_get after u ≡ Some (New degree) → slice_get before u ≡ Some (New degree)

-- so many steps are left at most
abbrev pub work_left : List Mark → List ℕ → List Waiting → ℕ
work_left marks starts waiting = sum_by weight_of marks + length waiting + length starts

-- before the search each node is new
pub record AreNew (edges : List (SmallVec ℕ)) (marks : List Mark) : Type 0 where
  pub size : length marks ≡ length edges
  pub each : (u : ℕ) (targets : SmallVec ℕ) → slice_get edges u ≡ Some targets → slice_get marks u ≡ Some (New (length targets.items))

-- the number of a node's component, where it is done
abbrev pub number_in : Mark → ℕ
number_in (New degree) = 0
number_in (Open place) = 0
number_in (Done number) = number
