-- The plain form of a value.
use Rattle.std.specs.Prelude.{ℕ, max, List, [], ◌∷◌, map, Option, Some, None}
use Rattle.php_syntax.specs.Trees.{PlainExpr, plain_expr}
use Rattle.php_syntax.specs.declared.tree.Expr.{Expr}
use Rattle.expr_machine.specs.Values.{PlainValue, known_value, tall_value, absent_value}
use Rattle.expr_builder.specs.declared.value.Value.{Value}
use Rattle.expr_builder.specs.declared.value.Value.TheVariants as value

-- the plain form of a value
abbrev pub plain_value : Value → PlainValue
plain_value (value.Known tree height) = known_value (plain_expr tree) height
plain_value (value.Tall place) = tall_value place
plain_value value.Absent = absent_value

-- the values of a vector
abbrev pub plain_values : List Value → List PlainValue
plain_values vs = map plain_value vs

-- there are fewer than two
abbrev pub IsShort : List Value → Type 0
IsShort [] = Unit {0}
IsShort (v ∷ []) = Unit {0}
IsShort (v ∷ w ∷ vs) = ⊥

-- a tree and its height, where they are kept
abbrev pub one_known : PlainValue → Option (PlainExpr × ℕ)
one_known (known_value a h) = Some (a, h)
one_known _ = None

-- two trees and the height of the higher one, where both are kept
abbrev pub known_both : PlainValue → PlainValue → Option (PlainExpr × PlainExpr × ℕ)
known_both (known_value a h) (known_value b k) = Some (a, b, max h k)
known_both _ _ = None

-- the plain form of two trees and the height of the higher one, if both are kept
abbrev pub both_shown : Option (Expr × Expr × ℕ) → Option (PlainExpr × PlainExpr × ℕ)
both_shown None = None
both_shown (Some both) = Some (plain_expr both.0, plain_expr both.1, both.2)

-- the plain form of a tree, if it is kept
abbrev pub tree_shown : Option Expr → Option PlainExpr
tree_shown None = None
tree_shown (Some e) = Some (plain_expr e)
