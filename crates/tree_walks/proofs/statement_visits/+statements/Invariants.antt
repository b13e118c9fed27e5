use Rattle.std.proofs.Common.{◌≡◌, ◌+◌, ◌*◌, drop}
use Rattle.std.specs.List.{fold}
use Rattle.php_syntax.specs.Trees.{plain_stmt, stmts_of, arms_of}
use Rattle.php_syntax.specs.Height.{stmt_height, stmts_height, arms_height}
use Rattle.program_expressions.specs.Collected.{itself, stmts_collected, arms_collected}
use Rattle.tree_walks.proofs.statement_visits.+statements.Given as goal

abbrev pub decreases-visit_stmt : goal.decreases-visit_stmt
decreases-visit_stmt g l = 4 * stmt_height (plain_stmt l.stmt.now)

abbrev pub decreases-visit_stmts : goal.decreases-visit_stmts
decreases-visit_stmts g l = 4 * stmts_height (stmts_of l.stmts.now) + 1

abbrev pub decreases-visit_arms : goal.decreases-visit_arms
decreases-visit_arms g l = 4 * arms_height (arms_of l.arms.now) + 2

-- what is left to visit from here, and all from where the loop began
abbrev pub invariant-visit_stmts-loop-stmt : goal.invariant-visit_stmts-loop-stmt
invariant-visit_stmts-loop-stmt g l = fold g.V.Visitor.next (g.V.Visitor.state l.visitor) (stmts_collected itself (stmts_of (drop l.stmt-index l.stmts))) ≡ fold g.V.Visitor.next (g.V.Visitor.state l.initial.visitor) (stmts_collected itself (stmts_of l.stmts))

abbrev pub invariant-visit_arms-loop-arm : goal.invariant-visit_arms-loop-arm
invariant-visit_arms-loop-arm g l = fold g.V.Visitor.next (g.V.Visitor.state l.visitor) (arms_collected itself (arms_of (drop l.arm-index l.arms))) ≡ fold g.V.Visitor.next (g.V.Visitor.state l.initial.visitor) (arms_collected itself (arms_of l.arms))
