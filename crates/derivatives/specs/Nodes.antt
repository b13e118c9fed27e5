-- Nodes in a list. The parts of a node are named by their places there.
use Rattle.std.specs.Prelude.{◌≡◌, ◌<◌, ℕ, Bool, true, false, List, Option, Some, None, slice_get, ⊤}
use Rattle.std.proofs.Props.{props}
use Rattle.derivatives.specs.declared.node.Node.{Node}
use Rattle.derivatives.specs.declared.node.Node.TheVariants as node

-- there is a node, and it is one of an expression
abbrev pub is_expr_at : Option Node → Bool
is_expr_at (Some node.Nothing) = true
is_expr_at (Some node.Empty) = true
is_expr_at (Some (node.Range low high)) = true
is_expr_at (Some (node.Chain i j)) = true
is_expr_at (Some (node.Either i j)) = true
is_expr_at (Some (node.Star i)) = true
is_expr_at (Some (node.Among i)) = true
is_expr_at (Some node.NoMore) = false
is_expr_at (Some (node.Member i q j)) = false
is_expr_at None = false

-- there is a node, and it is one of members
abbrev pub is_list_at : Option Node → Bool
is_list_at (Some node.NoMore) = true
is_list_at (Some (node.Member i q j)) = true
is_list_at o = false

-- the place is that of an expression
abbrev pub IsExprAt : List Node → ℕ → Type 0
IsExprAt nodes n = is_expr_at (slice_get nodes n) ≡ true

-- the place is that of members
abbrev pub IsListAt : List Node → ℕ → Type 0
IsListAt nodes n = is_list_at (slice_get nodes n) ≡ true

-- the parts of a node are expressions, but for the members of `among` and those behind a member
abbrev pub AreParts : List Node → Node → Type 0
AreParts nodes node.Nothing = ⊤
AreParts nodes node.Empty = ⊤
AreParts nodes (node.Range low high) = ⊤
AreParts nodes (node.Chain i j) = IsExprAt nodes i × IsExprAt nodes j
AreParts nodes (node.Either i j) = IsExprAt nodes i × IsExprAt nodes j
AreParts nodes (node.Star i) = IsExprAt nodes i
AreParts nodes (node.Among i) = IsListAt nodes i
AreParts nodes node.NoMore = ⊤
AreParts nodes (node.Member i q j) = IsExprAt nodes i × IsListAt nodes j

-- the parts of a node stand before this place
abbrev pub AreBelow : ℕ → Node → Type 0
AreBelow n node.Nothing = ⊤
AreBelow n node.Empty = ⊤
AreBelow n (node.Range low high) = ⊤
AreBelow n (node.Chain i j) = (i < n) × (j < n)
AreBelow n (node.Either i j) = (i < n) × (j < n)
AreBelow n (node.Star i) = i < n
AreBelow n (node.Among i) = i < n
AreBelow n node.NoMore = ⊤
AreBelow n (node.Member i q j) = (i < n) × (j < n)

-- each node has its parts before it
abbrev pub IsBuilt : List Node → Type 0
IsBuilt nodes = (n : ℕ) (x : Node) → slice_get nodes n ≡ Some x → AreBelow n x × AreParts nodes x

parts-prop : (nodes : List Node) (x : Node) → IsProp (AreParts nodes x)
parts-prop nodes node.Nothing = hlevel props
parts-prop nodes node.Empty = hlevel props
parts-prop nodes (node.Range low high) = hlevel props
parts-prop nodes (node.Chain i j) = hlevel props
parts-prop nodes (node.Either i j) = hlevel props
parts-prop nodes (node.Star i) = hlevel props
parts-prop nodes (node.Among i) = hlevel props
parts-prop nodes node.NoMore = hlevel props
parts-prop nodes (node.Member i q j) = hlevel props

below-prop : (n : ℕ) (x : Node) → IsProp (AreBelow n x)
below-prop n node.Nothing = hlevel props
below-prop n node.Empty = hlevel props
below-prop n (node.Range low high) = hlevel props
below-prop n (node.Chain i j) = hlevel props
below-prop n (node.Either i j) = hlevel props
below-prop n (node.Star i) = hlevel props
below-prop n (node.Among i) = hlevel props
below-prop n node.NoMore = hlevel props
below-prop n (node.Member i q j) = hlevel props

pub built-prop : (nodes : List Node) → IsProp (IsBuilt nodes)
built-prop nodes = hlevel (props, parts-prop, below-prop)
