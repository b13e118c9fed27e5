-- The values of the nodes that the actions of operators make, and what of a tree is read from its value.
use Rattle.std.proofs.Common.{◌≡◌, ◌+◌, Bool, true, false, refl, ap}
use Rattle.std.specs.Prelude.{if◌then◌else◌, nat_le, max}
use Rattle.std.proofs.Math.Nat.{max-zero, zero-max}
use Rattle.script_grammar.specs.declared.operator.Operator.{Operator}
use Rattle.script_grammar.specs.declared.operator.Operator.TheVariants as operator
use Rattle.script_grammar.specs.declared.operator.Prefix.{Prefix}
use Rattle.script_grammar.specs.declared.operator.Prefix.TheVariants as prefix
use Rattle.php_syntax.specs.Trees.{PlainExpr, member_expr, coalesce_expr, choice_expr, empty_expr, no_expr, some_expr}
use Rattle.script_grammar.specs.Expressions.{prefix_tree, operator_tree}
use Rattle.script_grammar.specs.Rules.{is_place}
use Rattle.php_syntax.specs.Height.{height}
use Rattle.expr_machine.specs.Values.{known_value, tall_value, value_of_tree, is_place_value, is_absent, prefix_value, binary_value, coalesce_value, short_choice_value, full_choice_value, member_value, empty_value}
use Rattle.expr_laws.proofs.NodeValues.{one_is, two_is, three_is}

prefix_height : (p : Prefix) (a : PlainExpr) → height (prefix_tree p a) ≡ 1 + height a
unfolding height
prefix_height prefix.Not a = refl
prefix_height prefix.Neg a = refl
prefix_height prefix.CastInt a = ap (λ h. 1 + h) (max-zero (height a))
prefix_height prefix.CastString a = ap (λ h. 1 + h) (max-zero (height a))

prefix_no_place : (p : Prefix) (a : PlainExpr) → is_place (prefix_tree p a) ≡ false
prefix_no_place prefix.Not a = refl
prefix_no_place prefix.Neg a = refl
prefix_no_place prefix.CastInt a = refl
prefix_no_place prefix.CastString a = refl

pub prefix_is : (p : Prefix) (a : PlainExpr) → prefix_value p (value_of_tree a) ≡ value_of_tree (prefix_tree p a)
prefix_is p a = one_is (prefix_value p) a (prefix_tree p a) (λ h. refl) refl (prefix_height p a) (prefix_no_place p a)

operator_height : (o : Operator) (a b : PlainExpr) → height (operator_tree o a b) ≡ 1 + max (height a) (height b)
unfolding height
operator_height operator.Or a b = refl
operator_height operator.And a b = refl
operator_height (operator.Compare s) a b = refl
operator_height operator.Join a b = ap (λ h. 1 + max (height a) h) (max-zero (height b))
operator_height (operator.Arith s) a b = refl

operator_no_place : (o : Operator) (a b : PlainExpr) → is_place (operator_tree o a b) ≡ false
operator_no_place operator.Or a b = refl
operator_no_place operator.And a b = refl
operator_no_place (operator.Compare s) a b = refl
operator_no_place operator.Join a b = refl
operator_no_place (operator.Arith s) a b = refl

pub binary_is : (o : Operator) (a b : PlainExpr) → binary_value o (value_of_tree a) (value_of_tree b) ≡ value_of_tree (operator_tree o a b)
binary_is o a b = two_is (binary_value o) a b (operator_tree o a b) false (λ h k. refl) (λ v. refl) (λ h. refl) (operator_height o a b) (operator_no_place o a b)

pub coalesce_is : (a b : PlainExpr) → coalesce_value (value_of_tree a) (value_of_tree b) ≡ value_of_tree (coalesce_expr a b)
unfolding height
coalesce_is a b = two_is coalesce_value a b (coalesce_expr a b) false (λ h k. refl) (λ v. refl) (λ h. refl) refl refl

pub short_choice_is : (a b : PlainExpr) → short_choice_value (value_of_tree a) (value_of_tree b) ≡ value_of_tree (choice_expr a no_expr b)
unfolding height
short_choice_is a b = two_is short_choice_value a b (choice_expr a no_expr b) false (λ h k. refl) (λ v. refl) (λ h. refl) (ap (λ h. 1 + max (height a) h) (zero-max (height b))) refl

pub full_choice_is : (a m b : PlainExpr) → full_choice_value (value_of_tree a) (value_of_tree m) (value_of_tree b) ≡ value_of_tree (choice_expr a (some_expr m) b)
unfolding height
full_choice_is a m b = three_is full_choice_value a m b (choice_expr a (some_expr m) b) (λ h i k. refl) (λ v w. refl) (λ h w. refl) (λ h i. refl) refl refl

pub member_is : (a b : PlainExpr) → member_value (value_of_tree a) (value_of_tree b) ≡ value_of_tree (member_expr a b)
unfolding height
member_is a b = two_is member_value a b (member_expr a b) (is_place a) (λ h k. refl) (λ v. refl) (λ h. refl) refl refl

pub empty_is : (a : PlainExpr) → empty_value (value_of_tree a) ≡ value_of_tree (empty_expr a)
unfolding height
empty_is a = one_is empty_value a (empty_expr a) (λ h. refl) refl refl refl

pub place_value_is : (a : PlainExpr) → is_place_value (value_of_tree a) ≡ is_place a
place_value_is a = go (nat_le (height a) 200)
  where
    go : (q : Bool) → is_place_value (if q then known_value a (height a) else tall_value (is_place a)) ≡ is_place a
    go true = refl
    go false = refl

pub tree_is_not_absent : (a : PlainExpr) → is_absent (value_of_tree a) ≡ false
tree_is_not_absent a = go (nat_le (height a) 200)
  where
    go : (q : Bool) → is_absent (if q then known_value a (height a) else tall_value (is_place a)) ≡ false
    go true = refl
    go false = refl
