-- What the numbers of an arena stand for.
use Rattle.std.specs.Prelude.{◌≡◌, ◌<◌, ℕ, zero, suc, Bool, true, false, List, Option, Some, slice_get, length}
use Rattle.numbered_sets.specs.Numbers.{Keeps}
use Rattle.derivatives.specs.Expressions.{Expr, nothing, empty, range, chain, either, star, among, Members, none, member}
use Rattle.derivatives.specs.Nodes.{IsExprAt, IsListAt, AreParts}
use Rattle.derivatives.specs.declared.arena.Arena.{Arena}
use Rattle.derivatives.specs.declared.node.Node.{Node}
use Rattle.derivatives.specs.declared.node.Node.TheVariants as node

-- the expression of a node, by what its parts stand for
abbrev pub expr_of : (ℕ → Expr) → (ℕ → Members) → Option Node → Expr
expr_of e m (Some node.Nothing) = nothing
expr_of e m (Some node.Empty) = empty
expr_of e m (Some (node.Range low high)) = range low high
expr_of e m (Some (node.Chain i j)) = chain (e i) (e j)
expr_of e m (Some (node.Either i j)) = either (e i) (e j)
expr_of e m (Some (node.Star i)) = star (e i)
expr_of e m (Some (node.Among i)) = among (m i)
expr_of e m o = nothing

-- the members of a node, by what its parts stand for
abbrev pub members_of : (ℕ → Expr) → (ℕ → Members) → Option Node → Members
members_of e m (Some (node.Member i q j)) = member (e i) q (m j)
members_of e m o = none

abbrev mutual
  -- the expression at a place, by so many levels of parts
  pub expr_within : List Node → ℕ → ℕ → Expr
  expr_within nodes zero n = nothing
  expr_within nodes (suc k) n = expr_of (expr_within nodes k) (members_within nodes k) (slice_get nodes n)

  -- the members at a place, by so many levels of parts
  pub members_within : List Node → ℕ → ℕ → Members
  members_within nodes zero n = none
  members_within nodes (suc k) n = members_of (expr_within nodes k) (members_within nodes k) (slice_get nodes n)

-- how many numbers there are: each below it stands for an expression or for members
abbrev pub count_of : Arena → ℕ
count_of arena = length arena.nodes.keys

-- the node with a number, where there is one
abbrev pub node_at : Arena → ℕ → Option Node
node_at arena n = slice_get arena.nodes.keys n

-- the parts of a node are there: expressions or members, as its kind asks for
abbrev pub HasParts : Arena → Node → Type 0
HasParts arena x = AreParts arena.nodes.keys x

-- the number is that of an expression
abbrev pub IsExpr : Arena → ℕ → Type 0
IsExpr arena n = IsExprAt arena.nodes.keys n

-- the number is that of members
abbrev pub IsList : Arena → ℕ → Type 0
IsList arena n = IsListAt arena.nodes.keys n

-- the expression that a number stands for: since parts have smaller numbers, so many levels are enough
unfoldable pub expr_at : Arena → ℕ → Expr
expr_at arena n = expr_within arena.nodes.keys (suc n) n

-- the members that a number stands for
unfoldable pub members_at : Arena → ℕ → Members
members_at arena n = members_within arena.nodes.keys (suc n) n

-- the number stands for this expression
pub record IsMade (arena : Arena) (n : ℕ) (e : Expr) : Type 0 where
  pub is_expr : IsExpr arena n
  pub is : expr_at arena n ≡ e

-- the number stands for these members
pub record IsListed (arena : Arena) (n : ℕ) (ms : Members) : Type 0 where
  pub is_list : IsList arena n
  pub is : members_at arena n ≡ ms

-- each number goes on to stand for what it stood for
abbrev pub Grows : Arena → Arena → Type 0
Grows old new = Keeps old.nodes.keys new.nodes.keys

-- two numbers that stand for one expression are one
abbrev pub HasEachOnce : Arena → Type 0
HasEachOnce arena = (i j : ℕ) → IsExpr arena i → IsExpr arena j → expr_at arena i ≡ expr_at arena j → i ≡ j

-- a member is the first of these, and those are the others, which all have smaller numbers
pub record HasFirst (arena : Arena) (list x : ℕ) (required : Bool) (rest : ℕ) : Type 0 where
  pub first_below : x < list
  pub rest_below : rest < list
  pub is_expr : IsExpr arena x
  pub is_list : IsList arena rest
  pub is : members_at arena list ≡ member (expr_at arena x) required (members_at arena rest)

-- the expression is one of two, which have smaller numbers
pub record HasAlternatives (arena : Arena) (n x y : ℕ) : Type 0 where
  pub first_below : x < n
  pub second_below : y < n
  pub first : IsExpr arena x
  pub second : IsExpr arena y
  pub is : expr_at arena n ≡ either (expr_at arena x) (expr_at arena y)

-- the expression is no alternative of others
abbrev pub is_alone : Expr → Bool
is_alone (either x y) = false
is_alone e = true
