use Rattle.std.proofs.Common.{max, ◌+◌, ◌*◌, drop}
use Rattle.php_syntax.specs.declared.tree.Expr.{size-Expr}
use Rattle.php_syntax.specs.Trees.{exprs_of, items_of, path_of}
use Rattle.program_sizes.specs.Sizes as sizes
use Rattle.program_sizes.proofs.LoopLemmas.{SoFar}
use Rattle.program_sizes.proofs.expressions.+expressions.Given as goal

abbrev pub decreases-size_of_expr : goal.decreases-size_of_expr
decreases-size_of_expr l = 8 * size-Expr l.expr.now

abbrev pub decreases-over_one : goal.decreases-over_one
decreases-over_one l = 8 * size-Expr l.operand.now + 2

abbrev pub decreases-over_two : goal.decreases-over_two
decreases-over_two l = 8 * max (size-Expr l.left.now) (size-Expr l.right.now) + 3

abbrev pub decreases-over_three : goal.decreases-over_three
decreases-over_three l = 8 * max (size-Expr l.left.now) (max (goal.size-over_three l) (size-Expr l.right.now)) + 3

abbrev pub decreases-over_assignment : goal.decreases-over_assignment
decreases-over_assignment l = 8 * max (goal.size-over_assignment l) (size-Expr l.value.now) + 3

abbrev pub decreases-over_exprs : goal.decreases-over_exprs
decreases-over_exprs l = 8 * goal.size-over_exprs l + 4

abbrev pub decreases-over_items : goal.decreases-over_items
decreases-over_items l = 8 * goal.size-over_items l + 4

abbrev pub decreases-size_of_boxed : goal.decreases-size_of_boxed
decreases-size_of_boxed l = 8 * goal.size-size_of_boxed l + 1

abbrev pub decreases-size_of_maybe : goal.decreases-size_of_maybe
decreases-size_of_maybe l = 8 * goal.size-size_of_maybe l + 1

abbrev pub decreases-size_of_exprs : goal.decreases-size_of_exprs
decreases-size_of_exprs l = 8 * goal.size-size_of_exprs l + 2

abbrev pub decreases-size_of_items : goal.decreases-size_of_items
decreases-size_of_items l = 8 * goal.size-size_of_items l + 3

abbrev pub decreases-size_of_path : goal.decreases-size_of_path
decreases-size_of_path l = 8 * goal.size-size_of_path l + 2

abbrev pub invariant-size_of_exprs-loop-expr : goal.invariant-size_of_exprs-loop-expr
invariant-size_of_exprs-loop-expr l = SoFar l.size (sizes.of_exprs (exprs_of (drop l.expr-index l.exprs))) (sizes.of_exprs (exprs_of l.exprs))

abbrev pub invariant-size_of_items-loop-item : goal.invariant-size_of_items-loop-item
invariant-size_of_items-loop-item l = SoFar l.size (sizes.of_items (items_of (drop l.item-index l.items))) (sizes.of_items (items_of l.items))

abbrev pub invariant-size_of_path-loop-key : goal.invariant-size_of_path-loop-key
invariant-size_of_path-loop-key l = SoFar l.size (sizes.of_path (path_of (drop l.key-index l.keys))) (sizes.of_path (path_of l.keys))
