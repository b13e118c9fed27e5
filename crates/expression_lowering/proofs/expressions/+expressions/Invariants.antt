use Rattle.std.proofs.Common.{◌≡◌, max, ◌+◌, ◌*◌, ◌++◌, drop, map, length, List, ℕ}
use Rattle.std.specs.Prelude.{Option}
use Rattle.php_syntax.specs.declared.tree.Expr.{size-Expr}
use Rattle.php_syntax.specs.declared.tree.Target.{size-Target}
use Rattle.php_syntax.specs.Trees.{exprs_of, path_of}
use Rattle.flow_code.specs.Points.{PlainKeyRef}
use Rattle.flow_code.specs.View.{slot_number, plain_item, plain_maybe_key}
use Rattle.flow_code.specs.Expressions.{codes, path_code}
use Rattle.flow_lowering.specs.View.{progress}
use Rattle.flow_lowering.specs.Emits.{Progress, Emits}
use Rattle.flow_lowering.specs.ScopeView.{scope_in}
use Rattle.expression_lowering.proofs.RowEmits.{SoFar}
use Rattle.expression_lowering.proofs.expressions.+expressions.Given as goal

abbrev pub decreases-lower_expr : goal.decreases-lower_expr
decreases-lower_expr l = 8 * size-Expr l.expr.now

abbrev pub decreases-lower_key : goal.decreases-lower_key
decreases-lower_key l = 8 * size-Expr l.key.now + 1

abbrev pub decreases-lower_maybe_key : goal.decreases-lower_maybe_key
decreases-lower_maybe_key l = 8 * goal.size-lower_maybe_key l + 2

abbrev pub decreases-lower_exprs : goal.decreases-lower_exprs
decreases-lower_exprs l = 8 * goal.size-lower_exprs l + 2

abbrev pub decreases-lower_path : goal.decreases-lower_path
decreases-lower_path l = 8 * goal.size-lower_path l + 3

abbrev pub decreases-lower_items : goal.decreases-lower_items
decreases-lower_items l = 8 * goal.size-lower_items l + 3

abbrev pub decreases-lower_one : goal.decreases-lower_one
decreases-lower_one l = 8 * size-Expr l.operand.now + 2

abbrev pub decreases-lower_two : goal.decreases-lower_two
decreases-lower_two l = 8 * max (size-Expr l.left.now) (size-Expr l.right.now) + 3

abbrev pub decreases-lower_connected : goal.decreases-lower_connected
decreases-lower_connected l = 8 * max (size-Expr l.left.now) (size-Expr l.right.now) + 3

abbrev pub decreases-lower_coalesce : goal.decreases-lower_coalesce
decreases-lower_coalesce l = 8 * max (size-Expr l.left.now) (size-Expr l.right.now) + 3

abbrev pub decreases-lower_itself : goal.decreases-lower_itself
decreases-lower_itself l = 8 * max (size-Expr l.condition.now) (size-Expr l.other.now) + 3

abbrev pub decreases-lower_choice : goal.decreases-lower_choice
decreases-lower_choice l = 8 * max (size-Expr l.condition.now) (max (size-Expr l.middle.now) (size-Expr l.other.now)) + 3

abbrev pub decreases-lower_member : goal.decreases-lower_member
decreases-lower_member l = 8 * max (size-Expr l.base.now) (size-Expr l.key.now) + 3

abbrev pub decreases-lower_array : goal.decreases-lower_array
decreases-lower_array l = 8 * goal.size-lower_array l + 4

abbrev pub decreases-lower_join : goal.decreases-lower_join
decreases-lower_join l = 8 * goal.size-lower_join l + 4

abbrev pub decreases-lower_isset : goal.decreases-lower_isset
decreases-lower_isset l = 8 * goal.size-lower_isset l + 4

abbrev pub decreases-lower_call : goal.decreases-lower_call
decreases-lower_call l = 8 * goal.size-lower_call l + 5

abbrev pub decreases-lower_old : goal.decreases-lower_old
decreases-lower_old l = 8 * size-Target l.target.now

abbrev pub decreases-lower_assign : goal.decreases-lower_assign
decreases-lower_assign l = 8 * max (size-Target l.target.now) (size-Expr l.value.now) + 3

abbrev pub decreases-lower_updated : goal.decreases-lower_updated
decreases-lower_updated l = 8 * max (size-Target l.target.now) (size-Expr l.value.now) + 3

abbrev pub decreases-lower_update : goal.decreases-lower_update
decreases-lower_update l = 8 * max (size-Target l.target.now) (size-Expr l.value.now) + 4

abbrev pub decreases-lower_filled : goal.decreases-lower_filled
decreases-lower_filled l = 8 * max (size-Target l.target.now) (size-Expr l.value.now) + 3

-- what emits the rest emits all
abbrev pub invariant-lower_exprs-loop-expr : goal.invariant-lower_exprs-loop-expr
invariant-lower_exprs-loop-expr l = record {
  rest : (s : Progress) (ys : List ℕ) → Emits (progress l.points) s (codes (scope_in l.scope) (exprs_of (drop l.expr-index l.exprs))) ys
      → Emits (progress l.initial.points) s (codes (scope_in l.scope) (exprs_of l.exprs)) (map slot_number l.slots.items ++ ys);
  long : length l.slots.items ≡ l.expr-index;
}

abbrev pub invariant-lower_path-loop-key : goal.invariant-lower_path-loop-key
invariant-lower_path-loop-key l = record {
  rest : (s : Progress) (ys : List (Option PlainKeyRef)) → Emits (progress l.points) s (path_code (scope_in l.scope) (path_of (drop l.key-index l.keys))) ys
      → Emits (progress l.initial.points) s (path_code (scope_in l.scope) (path_of l.keys)) (map plain_maybe_key l.path.items ++ ys);
  long : length l.path.items ≡ l.key-index;
}

abbrev pub invariant-lower_items-loop-item : goal.invariant-lower_items-loop-item
invariant-lower_items-loop-item l = SoFar (scope_in l.scope) (progress l.initial.points) (progress l.points) l.fn.array.0 l.items l.item-index l.made.0 (map plain_item l.lowered.items)
