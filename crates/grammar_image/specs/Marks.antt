-- Marks on the nodes of a derivation: the root and all that is under it are marked. That nothing else is, is not said.
use Rattle.std.specs.Prelude.{◌≡◌, ◌≤◌, ◌-◌, ℕ, Bool, true, false, ◌&&◌, List, Some, slice_get, slice_index_or, slice_set, length, IsTrue}
use Rattle.derivations.specs.declared.node.Part.{Part}
use Rattle.derivations.specs.declared.node.Part.TheVariants.{Byte, Token, Inner}
use Rattle.derivations.specs.declared.node.Parts.{Parts}
use Rattle.derivations.specs.declared.node.Parts.TheVariants.{Empty, One, Two}
use Rattle.derivations.specs.declared.node.Node.{Node}

-- the node is marked
abbrev pub marked_at : List Bool → ℕ → Bool
marked_at marks n = slice_index_or marks n false

-- the part is a letter, or a node that is marked
abbrev pub part_marked : List Bool → Part → Bool
part_marked marks (Byte b) = true
part_marked marks (Token t) = true
part_marked marks (Inner n) = marked_at marks n

-- each part is a letter or a node that is marked
abbrev pub parts_marked : List Bool → Parts → Bool
parts_marked marks Empty = true
parts_marked marks (One a) = part_marked marks a
parts_marked marks (Two a b) = part_marked marks a && part_marked marks b

-- the part is marked, if it is a node
abbrev pub mark_part : List Bool → Part → List Bool
mark_part marks (Byte b) = marks
mark_part marks (Token t) = marks
mark_part marks (Inner n) = slice_set marks n true

-- each part is marked, if it is a node
abbrev pub mark_parts : List Bool → Parts → List Bool
mark_parts marks Empty = marks
mark_parts marks (One a) = mark_part marks a
mark_parts marks (Two a b) = mark_part (mark_part marks a) b

-- from a place on, what a marked node names is marked
abbrev pub AreClosedFrom : ℕ → List Node → List Bool → Type 0
AreClosedFrom from nodes marks =
    (n : ℕ) (node : Node) → from ≤ n → slice_get nodes n ≡ Some node → marked_at marks n ≡ true → IsTrue (parts_marked marks node.parts)

-- the last node is marked, and what a marked node names
pub record AreUnderRoot (nodes : List Node) (marks : List Bool) : Type 0 where
  pub root : IsTrue (marked_at marks (length nodes - 1))
  pub closed : AreClosedFrom 0 nodes marks
