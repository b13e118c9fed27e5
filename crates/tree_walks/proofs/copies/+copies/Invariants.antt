use Rattle.std.proofs.Common.{◌≡◌, max, ◌+◌, ◌*◌, drop}
use Rattle.php_syntax.specs.declared.tree.Expr.{size-Expr}
use Rattle.php_syntax.specs.declared.tree.Target.{size-Target}
use Rattle.php_syntax.specs.Trees.{exprs_of, items_of, path_of}
use Rattle.tree_walks.proofs.CopyLemmas.{exprs_then, items_then, path_then}
use Rattle.tree_walks.proofs.copies.+copies.Given as goal

abbrev pub decreases-copy_expr : goal.decreases-copy_expr
decreases-copy_expr l = 8 * size-Expr l.expr.now

abbrev pub decreases-copy_box : goal.decreases-copy_box
decreases-copy_box l = 8 * size-Expr l.expr.now + 1

abbrev pub decreases-copy_neg : goal.decreases-copy_neg
decreases-copy_neg l = 8 * size-Expr l.operand.now + 2

abbrev pub decreases-copy_not : goal.decreases-copy_not
decreases-copy_not l = 8 * size-Expr l.operand.now + 2

abbrev pub decreases-copy_empty : goal.decreases-copy_empty
decreases-copy_empty l = 8 * size-Expr l.operand.now + 2

abbrev pub decreases-copy_member : goal.decreases-copy_member
decreases-copy_member l = 8 * max (size-Expr l.left.now) (size-Expr l.right.now) + 3

abbrev pub decreases-copy_and : goal.decreases-copy_and
decreases-copy_and l = 8 * max (size-Expr l.left.now) (size-Expr l.right.now) + 3

abbrev pub decreases-copy_or : goal.decreases-copy_or
decreases-copy_or l = 8 * max (size-Expr l.left.now) (size-Expr l.right.now) + 3

abbrev pub decreases-copy_coalesce : goal.decreases-copy_coalesce
decreases-copy_coalesce l = 8 * max (size-Expr l.left.now) (size-Expr l.right.now) + 3

abbrev pub decreases-copy_arith : goal.decreases-copy_arith
decreases-copy_arith l = 8 * max (size-Expr l.left.now) (size-Expr l.right.now) + 3

abbrev pub decreases-copy_compare : goal.decreases-copy_compare
decreases-copy_compare l = 8 * max (size-Expr l.left.now) (size-Expr l.right.now) + 3

abbrev pub decreases-copy_boxed : goal.decreases-copy_boxed
decreases-copy_boxed l = 8 * goal.size-copy_boxed l + 2

abbrev pub decreases-copy_maybe : goal.decreases-copy_maybe
decreases-copy_maybe l = 8 * goal.size-copy_maybe l + 1

abbrev pub decreases-copy_exprs : goal.decreases-copy_exprs
decreases-copy_exprs l = 8 * goal.size-copy_exprs l + 2

abbrev pub decreases-copy_items : goal.decreases-copy_items
decreases-copy_items l = 8 * goal.size-copy_items l + 3

abbrev pub decreases-copy_path : goal.decreases-copy_path
decreases-copy_path l = 8 * goal.size-copy_path l + 2

abbrev pub decreases-copy_join : goal.decreases-copy_join
decreases-copy_join l = 8 * goal.size-copy_join l + 4

abbrev pub decreases-copy_isset : goal.decreases-copy_isset
decreases-copy_isset l = 8 * goal.size-copy_isset l + 4

abbrev pub decreases-copy_array : goal.decreases-copy_array
decreases-copy_array l = 8 * goal.size-copy_array l + 4

abbrev pub decreases-copy_call : goal.decreases-copy_call
decreases-copy_call l = 8 * goal.size-copy_call l + 5

abbrev pub decreases-copy_target : goal.decreases-copy_target
decreases-copy_target l = 8 * size-Target l.target.now

abbrev pub decreases-copy_assign : goal.decreases-copy_assign
decreases-copy_assign l = 8 * max (size-Target l.target.now) (size-Expr l.value.now) + 3

abbrev pub decreases-copy_update : goal.decreases-copy_update
decreases-copy_update l = 8 * max (size-Target l.target.now) (size-Expr l.value.now) + 3

-- what is copied, before what is left to copy
abbrev pub invariant-copy_exprs-loop-expr : goal.invariant-copy_exprs-loop-expr
invariant-copy_exprs-loop-expr l = exprs_then l.copies.items (exprs_of (drop l.expr-index l.exprs)) ≡ exprs_of l.exprs

abbrev pub invariant-copy_items-loop-item : goal.invariant-copy_items-loop-item
invariant-copy_items-loop-item l = items_then l.copies.items (items_of (drop l.item-index l.items)) ≡ items_of l.items

abbrev pub invariant-copy_path-loop-key : goal.invariant-copy_path-loop-key
invariant-copy_path-loop-key l = path_then l.copies.items (path_of (drop l.key-index l.keys)) ≡ path_of l.keys
