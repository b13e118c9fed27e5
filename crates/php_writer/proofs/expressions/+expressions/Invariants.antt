use Rattle.std.proofs.Common.{◌≡◌, ◌++◌, max, ◌+◌, ◌*◌, List, drop}
use Rattle.php_syntax.specs.declared.tree.Expr.{size-Expr}
use Rattle.php_syntax.specs.declared.tree.Target.{size-Target}
use Rattle.php_syntax.specs.Trees.{exprs_of, items_of, path_of}
use Rattle.spellable.specs.Marks.{Mark, all_written}
use Rattle.php_writer.specs.Written.{behind_marks, more_items_marks, path_marks}
use Rattle.php_writer.proofs.expressions.+expressions.Given as goal

abbrev pub decreases-expression : goal.decreases-expression
decreases-expression l = 8 * size-Expr l.expr.now

abbrev pub decreases-condition : goal.decreases-condition
decreases-condition l = 8 * size-Expr l.expr.now + 1

abbrev pub decreases-within : goal.decreases-within
decreases-within l = 8 * size-Expr l.expr.now + 1

abbrev pub decreases-signed : goal.decreases-signed
decreases-signed l = 8 * size-Expr l.expr.now + 2

abbrev pub decreases-infix : goal.decreases-infix
decreases-infix l = 8 * max (size-Expr l.left.now) (size-Expr l.right.now) + 3

abbrev pub decreases-member : goal.decreases-member
decreases-member l = 8 * max (size-Expr l.base.now) (size-Expr l.key.now) + 3

abbrev pub decreases-between : goal.decreases-between
decreases-between l = 8 * goal.size-between l + 1

abbrev pub decreases-maybe : goal.decreases-maybe
decreases-maybe l = 8 * goal.size-maybe l + 1

abbrev pub decreases-chain : goal.decreases-chain
decreases-chain l = 8 * goal.size-chain l + 3

abbrev pub decreases-arguments : goal.decreases-arguments
decreases-arguments l = 8 * goal.size-arguments l + 4

abbrev pub decreases-join : goal.decreases-join
decreases-join l = 8 * goal.size-join l + 4

abbrev pub decreases-item : goal.decreases-item
decreases-item l = 8 * goal.size-item l + 1

abbrev pub decreases-array : goal.decreases-array
decreases-array l = 8 * goal.size-array l + 3

abbrev pub decreases-several : goal.decreases-several
decreases-several l = 8 * goal.size-several l + 2

abbrev pub decreases-call : goal.decreases-call
decreases-call l = 8 * goal.size-call l + 5

abbrev pub decreases-empty : goal.decreases-empty
decreases-empty l = 8 * size-Expr l.place.now + 2

abbrev pub decreases-path : goal.decreases-path
decreases-path l = 8 * goal.size-path l + 2

abbrev pub decreases-assignment : goal.decreases-assignment
decreases-assignment l = 8 * max (size-Target l.target.now) (size-Expr l.value.now) + 3

-- what is left to write stands behind what is written
abbrev pub invariant-chain-loop-expr : goal.invariant-chain-loop-expr
invariant-chain-loop-expr l = (behind : List Mark) → l.out.bytes ++ all_written (behind_marks (exprs_of (drop l.expr-index l.rest)) l.separator l.place behind) ≡ l.initial.out.bytes ++ all_written (behind_marks (exprs_of l.rest) l.separator l.place behind)

abbrev pub invariant-several-loop-another : goal.invariant-several-loop-another
invariant-several-loop-another l = (behind : List Mark) → l.out.bytes ++ all_written (more_items_marks (items_of (drop l.another-index l.rest)) behind) ≡ l.initial.out.bytes ++ all_written (more_items_marks (items_of l.rest) behind)

abbrev pub invariant-path-loop-key : goal.invariant-path-loop-key
invariant-path-loop-key l = (behind : List Mark) → l.out.bytes ++ all_written (path_marks (path_of (drop l.key-index l.keys)) behind) ≡ l.initial.out.bytes ++ all_written (path_marks (path_of l.keys) behind)

abbrev pub decreases-update : goal.decreases-update
decreases-update l = 8 * max (size-Target l.target.now) (size-Expr l.value.now) + 4
