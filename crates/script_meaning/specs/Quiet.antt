-- Expressions that change nothing: without assignment, without `++` and `--`, and without calls.
use Rattle.std.specs.Prelude.{⊤}
use Rattle.php_syntax.specs.Trees.{PlainExpr, null_expr, flag_expr, int_expr, text_expr, var_expr, super_expr, member_expr, array_expr, join_expr, neg_expr, not_expr, arith_expr, compare_expr, and_expr, or_expr, coalesce_expr, choice_expr, isset_expr, empty_expr, assign_expr, update_expr, step_expr, call_expr, MaybeExpr, no_expr, some_expr, PlainExprs, no_exprs, more_exprs, PlainItems, no_items, more_items}

unfoldable mutual
  -- in the expression stand no assignment, no `++` or `--`, and no call
  pub IsQuiet : PlainExpr → Type 0
  IsQuiet null_expr = ⊤
  IsQuiet (flag_expr b) = ⊤
  IsQuiet (int_expr z) = ⊤
  IsQuiet (text_expr t) = ⊤
  IsQuiet (var_expr x) = ⊤
  IsQuiet (super_expr name) = ⊤
  IsQuiet (member_expr a k) = IsQuiet a × IsQuiet k
  IsQuiet (array_expr items) = ItemsAreQuiet items
  IsQuiet (join_expr parts) = AreQuiet parts
  IsQuiet (neg_expr a) = IsQuiet a
  IsQuiet (not_expr a) = IsQuiet a
  IsQuiet (arith_expr sign a b) = IsQuiet a × IsQuiet b
  IsQuiet (compare_expr sign a b) = IsQuiet a × IsQuiet b
  IsQuiet (and_expr a b) = IsQuiet a × IsQuiet b
  IsQuiet (or_expr a b) = IsQuiet a × IsQuiet b
  IsQuiet (coalesce_expr a b) = IsQuiet a × IsQuiet b
  IsQuiet (choice_expr c m b) = IsQuiet c × MaybeQuiet m × IsQuiet b
  IsQuiet (isset_expr parts) = AreQuiet parts
  IsQuiet (empty_expr a) = IsQuiet a
  IsQuiet (assign_expr x path e) = ⊥
  IsQuiet (update_expr sign x path e) = ⊥
  IsQuiet (step_expr x up before) = ⊥
  IsQuiet (call_expr name args) = ⊥

  -- the expression is quiet, where one is written
  pub MaybeQuiet : MaybeExpr → Type 0
  MaybeQuiet no_expr = ⊤
  MaybeQuiet (some_expr e) = IsQuiet e

  -- each of the expressions is quiet
  pub AreQuiet : PlainExprs → Type 0
  AreQuiet no_exprs = ⊤
  AreQuiet (more_exprs e es) = IsQuiet e × AreQuiet es

  -- the value of each item is quiet, and so is its key, where one is written
  pub ItemsAreQuiet : PlainItems → Type 0
  ItemsAreQuiet no_items = ⊤
  ItemsAreQuiet (more_items k e is) = MaybeQuiet k × IsQuiet e × ItemsAreQuiet is
