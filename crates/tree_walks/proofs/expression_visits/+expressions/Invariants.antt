use Rattle.std.proofs.Common.{◌≡◌, max, ◌+◌, ◌*◌, drop}
use Rattle.std.specs.List.{fold}
use Rattle.php_syntax.specs.declared.tree.Expr.{size-Expr}
use Rattle.php_syntax.specs.Trees.{exprs_of, items_of, path_of}
use Rattle.program_expressions.specs.Collected.{itself, part_collected, item_collected, path_collected}
use Rattle.tree_walks.proofs.expression_visits.+expressions.Given as goal

abbrev pub decreases-visit_expr : goal.decreases-visit_expr
decreases-visit_expr g l = 8 * size-Expr l.expr.now

abbrev pub decreases-visit_two : goal.decreases-visit_two
decreases-visit_two g l = 8 * max (size-Expr l.left.now) (size-Expr l.right.now) + 3

abbrev pub decreases-visit_boxed : goal.decreases-visit_boxed
decreases-visit_boxed g l = 8 * goal.size-visit_boxed g l + 1

abbrev pub decreases-visit_maybe : goal.decreases-visit_maybe
decreases-visit_maybe g l = 8 * goal.size-visit_maybe g l + 1

abbrev pub decreases-visit_exprs : goal.decreases-visit_exprs
decreases-visit_exprs g l = 8 * goal.size-visit_exprs g l + 2

abbrev pub decreases-visit_items : goal.decreases-visit_items
decreases-visit_items g l = 8 * goal.size-visit_items g l + 3

abbrev pub decreases-visit_path : goal.decreases-visit_path
decreases-visit_path g l = 8 * goal.size-visit_path g l + 2

abbrev pub decreases-visit_assignment : goal.decreases-visit_assignment
decreases-visit_assignment g l = 8 * max (goal.size-visit_assignment g l) (size-Expr l.value.now) + 3

-- what is left to visit from here, and all from where the loop began
abbrev pub invariant-visit_exprs-loop-expr : goal.invariant-visit_exprs-loop-expr
invariant-visit_exprs-loop-expr g l = fold g.V.Visitor.next (g.V.Visitor.state l.visitor) (part_collected itself (exprs_of (drop l.expr-index l.exprs))) ≡ fold g.V.Visitor.next (g.V.Visitor.state l.initial.visitor) (part_collected itself (exprs_of l.exprs))

abbrev pub invariant-visit_items-loop-item : goal.invariant-visit_items-loop-item
invariant-visit_items-loop-item g l = fold g.V.Visitor.next (g.V.Visitor.state l.visitor) (item_collected itself (items_of (drop l.item-index l.items))) ≡ fold g.V.Visitor.next (g.V.Visitor.state l.initial.visitor) (item_collected itself (items_of l.items))

abbrev pub invariant-visit_path-loop-key : goal.invariant-visit_path-loop-key
invariant-visit_path-loop-key g l = fold g.V.Visitor.next (g.V.Visitor.state l.visitor) (path_collected itself (path_of (drop l.key-index l.keys))) ≡ fold g.V.Visitor.next (g.V.Visitor.state l.initial.visitor) (path_collected itself (path_of l.keys))
