use Rattle.std.proofs.Common.{max, ◌+◌, ◌*◌, drop}
use Rattle.php_syntax.specs.Trees.{plain_stmt, stmts_of, arms_of}
use Rattle.php_syntax.specs.Height.{stmt_height, stmts_height, arms_height}
use Rattle.program_files.specs.View.{files_of}
use Rattle.program_sizes.specs.Sizes as sizes
use Rattle.program_sizes.proofs.LoopLemmas.{SoFar}
use Rattle.program_sizes.proofs.statements.+statements.Given as goal

abbrev pub decreases-size_of_stmt : goal.decreases-size_of_stmt
decreases-size_of_stmt l = 8 * stmt_height (plain_stmt l.stmt.now)

abbrev pub decreases-size_of_stmts : goal.decreases-size_of_stmts
decreases-size_of_stmts l = 8 * stmts_height (stmts_of l.stmts.now) + 1

abbrev pub decreases-size_of_arms : goal.decreases-size_of_arms
decreases-size_of_arms l = 8 * arms_height (arms_of l.arms.now) + 2

abbrev pub decreases-size_of_if : goal.decreases-size_of_if
decreases-size_of_if l = 8 * max (arms_height (arms_of l.arms.now)) (stmts_height (stmts_of l.otherwise.now)) + 3

abbrev pub decreases-size_of_loop : goal.decreases-size_of_loop
decreases-size_of_loop l = 8 * stmts_height (stmts_of l.body.now) + 3

abbrev pub decreases-size_of_do : goal.decreases-size_of_do
decreases-size_of_do l = 8 * stmts_height (stmts_of l.body.now) + 3

abbrev pub decreases-size_of_for : goal.decreases-size_of_for
decreases-size_of_for l = 8 * stmts_height (stmts_of l.body.now) + 3

abbrev pub invariant-size_of_stmts-loop-stmt : goal.invariant-size_of_stmts-loop-stmt
invariant-size_of_stmts-loop-stmt l =
    SoFar l.size (sizes.of_stmts (sizes.size_at (files_of l.files) l.table) (stmts_of (drop l.stmt-index l.stmts))) (sizes.of_stmts (sizes.size_at (files_of l.files) l.table) (stmts_of l.stmts))

abbrev pub invariant-size_of_arms-loop-arm : goal.invariant-size_of_arms-loop-arm
invariant-size_of_arms-loop-arm l =
    SoFar l.size (sizes.of_arms (sizes.size_at (files_of l.files) l.table) (arms_of (drop l.arm-index l.arms))) (sizes.of_arms (sizes.size_at (files_of l.files) l.table) (arms_of l.arms))
