-- An expression is at most as loose as an assignment, and so has a form at each place where it has one of its own.
use Rattle.std.proofs.Common.{ℕ, ◌≤◌, lit≤}
use Rattle.php_syntax.specs.declared.tree.ArithSign.{ArithSign}
use Rattle.php_syntax.specs.declared.tree.ArithSign.TheVariants as arith
use Rattle.php_syntax.specs.declared.tree.CompareSign.{CompareSign}
use Rattle.php_syntax.specs.declared.tree.CompareSign.TheVariants as compare
use Rattle.php_syntax.specs.Trees.{PlainExpr, null_expr, flag_expr, int_expr, text_expr, var_expr, super_expr, member_expr, array_expr, join_expr, neg_expr, not_expr, arith_expr, compare_expr, and_expr, or_expr, coalesce_expr, choice_expr, isset_expr, empty_expr, assign_expr, update_expr, step_expr, call_expr, PlainExprs, no_exprs, more_exprs}
use Rattle.php_writer.specs.Written.{looseness, join_looseness, arith_looseness, compare_looseness, within, expr_marks}
use Rattle.php_writer.proofs.FormPlaces.{Own, IsExpr, placed, loosened}

of_arith : (s : ArithSign) → arith_looseness s ≤ 12
of_arith arith.Add = lit≤ tt
of_arith arith.Sub = lit≤ tt
of_arith arith.Mul = lit≤ tt
of_arith arith.Rem = lit≤ tt

of_compare : (s : CompareSign) → compare_looseness s ≤ 12
of_compare compare.Equal = lit≤ tt
of_compare compare.NotEqual = lit≤ tt
of_compare compare.Identical = lit≤ tt
of_compare compare.NotIdentical = lit≤ tt
of_compare compare.Less = lit≤ tt
of_compare compare.LessEqual = lit≤ tt
of_compare compare.Greater = lit≤ tt
of_compare compare.GreaterEqual = lit≤ tt

of_join : (es : PlainExprs) → join_looseness es ≤ 12
of_join no_exprs = lit≤ tt
of_join (more_exprs e no_exprs) = lit≤ tt
of_join (more_exprs e (more_exprs f es)) = lit≤ tt

pub at_most_an_assignment : (e : PlainExpr) → looseness e ≤ 12
at_most_an_assignment null_expr = lit≤ tt
at_most_an_assignment (flag_expr b) = lit≤ tt
at_most_an_assignment (int_expr z) = lit≤ tt
at_most_an_assignment (text_expr t) = lit≤ tt
at_most_an_assignment (var_expr x) = lit≤ tt
at_most_an_assignment (super_expr s) = lit≤ tt
at_most_an_assignment (member_expr a k) = lit≤ tt
at_most_an_assignment (array_expr is) = lit≤ tt
at_most_an_assignment (join_expr es) = of_join es
at_most_an_assignment (neg_expr a) = lit≤ tt
at_most_an_assignment (not_expr a) = lit≤ tt
at_most_an_assignment (arith_expr s a b) = of_arith s
at_most_an_assignment (compare_expr s a b) = of_compare s
at_most_an_assignment (and_expr a b) = lit≤ tt
at_most_an_assignment (or_expr a b) = lit≤ tt
at_most_an_assignment (coalesce_expr a b) = lit≤ tt
at_most_an_assignment (choice_expr a m b) = lit≤ tt
at_most_an_assignment (isset_expr es) = lit≤ tt
at_most_an_assignment (empty_expr a) = lit≤ tt
at_most_an_assignment (assign_expr x ks e) = lit≤ tt
at_most_an_assignment (update_expr s x ks e) = lit≤ tt
at_most_an_assignment (step_expr x up before) = lit≤ tt
at_most_an_assignment (call_expr f es) = lit≤ tt

-- a form at the place that the expression is made for
abbrev pub IsOwn : PlainExpr → Type 0
IsOwn e = Own (looseness e) e (expr_marks e)

pub at : (place : ℕ) (e : PlainExpr) → IsOwn e → Own place e (within place (looseness e) (expr_marks e))
at place e own = placed place (looseness e) e (expr_marks e) (at_most_an_assignment e) own

pub whole : (e : PlainExpr) → IsOwn e → IsExpr e (expr_marks e)
whole e own = loosened 12 (looseness e) e (expr_marks e) (at_most_an_assignment e) own
