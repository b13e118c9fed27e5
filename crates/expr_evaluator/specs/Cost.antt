-- How much an evaluation has still to do before it gives a value or pauses: with every move it is less. No promise is read off from here.
use Rattle.std.specs.Prelude.{ℕ, ◌+◌, List, [], ◌∷◌, Some, None}
use Rattle.php_syntax.specs.Trees.{PlainExpr, null_expr, flag_expr, int_expr, text_expr, var_expr, super_expr, member_expr, array_expr, join_expr, neg_expr, not_expr, arith_expr, compare_expr, and_expr, or_expr, coalesce_expr, choice_expr, isset_expr, empty_expr, assign_expr, update_expr, step_expr, call_expr, no_expr, some_expr, PlainExprs, no_exprs, more_exprs, PlainItems, no_items, more_items, PlainPath, no_keys, more_keys, plain_expr, exprs_of, items_of, path_of}
use Rattle.expr_evaluator.specs.declared.frame.Writing.{Writing}
use Rattle.expr_evaluator.specs.declared.frame.Writing.TheVariants as writing
use Rattle.expr_evaluator.specs.declared.frame.Frame.{Frame}
use Rattle.expr_evaluator.specs.declared.frame.Frame.TheVariants as frame
use Rattle.expr_evaluator.specs.declared.frame.Focus.{Focus}
use Rattle.expr_evaluator.specs.declared.frame.Focus.TheVariants as focus

unfoldable mutual
  -- what is to do for an expression
  pub cost : PlainExpr → ℕ
  cost null_expr = 4
  cost (flag_expr b) = 4
  cost (int_expr z) = 4
  cost (text_expr t) = 4
  cost (var_expr x) = 4
  cost (super_expr s) = 4
  cost (member_expr a b) = 4 + cost a + cost b
  cost (array_expr is) = 4 + items_cost is
  cost (join_expr es) = 4 + row_cost es
  cost (neg_expr a) = 4 + cost a
  cost (not_expr a) = 4 + cost a
  cost (arith_expr s a b) = 4 + cost a + cost b
  cost (compare_expr s a b) = 4 + cost a + cost b
  cost (and_expr a b) = 4 + cost a + cost b
  cost (or_expr a b) = 4 + cost a + cost b
  cost (coalesce_expr a b) = 4 + cost a + cost b
  cost (choice_expr a no_expr b) = 4 + cost a + cost b
  cost (choice_expr a (some_expr m) b) = 4 + cost a + cost m + cost b
  cost (isset_expr es) = 4 + row_cost es
  cost (empty_expr a) = 4 + cost a
  cost (assign_expr x ks e) = 4 + path_cost ks + cost e
  cost (update_expr s x ks e) = 4 + path_cost ks + cost e
  cost (step_expr x up before) = 4
  cost (call_expr f es) = 4 + row_cost es

  -- what is to do for expressions in a row
  pub row_cost : PlainExprs → ℕ
  row_cost no_exprs = 0
  row_cost (more_exprs e es) = 4 + cost e + row_cost es

  -- what is to do for the items of an array literal
  pub items_cost : PlainItems → ℕ
  items_cost no_items = 0
  items_cost (more_items no_expr e is) = 4 + cost e + items_cost is
  items_cost (more_items (some_expr k) e is) = 4 + cost k + cost e + items_cost is

  -- what is to do for the keys of a target
  pub path_cost : PlainPath → ℕ
  path_cost no_keys = 0
  path_cost (more_keys no_expr ks) = 4 + path_cost ks
  path_cost (more_keys (some_expr k) ks) = 4 + cost k + path_cost ks

-- what is to do for the right side of a write
unfoldable pub writing_cost : Writing → ℕ
writing_cost (writing.Assign x e) = cost (plain_expr e.now)
writing_cost (writing.Update sign x e) = cost (plain_expr e.now)

-- what is to do for what a frame still holds, and for the frame itself
unfoldable pub frame_cost : Frame → ℕ
frame_cost (frame.Subscript k) = cost (plain_expr k.now) + 1
frame_cost (frame.Container a) = 1
frame_cost (frame.ItemKey e rest made) = cost (plain_expr e.now) + items_cost (items_of rest.now) + 5
frame_cost (frame.ItemValue key rest made) = items_cost (items_of rest.now) + 3
frame_cost (frame.Row p rest done) = row_cost (exprs_of rest.now) + 3
frame_cost (frame.Keys p rest done) = path_cost (path_of rest.now) + writing_cost p + 3
frame_cost frame.Negation = 1
frame_cost frame.Not = 1
frame_cost frame.Truth = 1
frame_cost (frame.ArithRight sign b) = cost (plain_expr b.now) + 1
frame_cost (frame.ArithLeft sign a) = 1
frame_cost (frame.CompareRight sign b) = cost (plain_expr b.now) + 1
frame_cost (frame.CompareLeft sign a) = 1
frame_cost (frame.And b) = cost (plain_expr b.now) + 1
frame_cost (frame.Or b) = cost (plain_expr b.now) + 1
frame_cost (frame.Coalesce b) = cost (plain_expr b.now) + 1
frame_cost (frame.Choice None b) = cost (plain_expr b.now) + 1
frame_cost (frame.Choice (Some a) b) = cost (plain_expr a.now) + cost (plain_expr b.now) + 1
frame_cost (frame.Assign x ks) = 1
frame_cost (frame.Update sign x path old) = 1

-- the same for all frames
unfoldable pub stack_cost : List Frame → ℕ
stack_cost [] = 0
stack_cost (f ∷ k) = frame_cost f + stack_cost k

-- what is to do for what is evaluated next; a call or a fault needs nothing more before the pause
unfoldable pub focus_cost : Focus → ℕ
focus_cost (focus.Eval e) = cost (plain_expr e.now)
focus_cost (focus.Value v) = 2
focus_cost (focus.Row p rest done) = row_cost (exprs_of rest.now) + 3
focus_cost (focus.Items rest made) = items_cost (items_of rest.now) + 3
focus_cost (focus.Keys p rest done) = path_cost (path_of rest.now) + writing_cost p + 3
focus_cost (focus.Call f args) = 0
focus_cost (focus.Fault fault) = 0
