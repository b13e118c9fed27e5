use Rattle.std.proofs.Common.{◌≡◌, ◌++◌, ◌+◌, ◌*◌, drop}
use Rattle.php_syntax.specs.Height.{stmt_height, stmts_height, arms_height}
use Rattle.php_syntax.specs.Trees.{plain_stmt, stmts_of, arms_of}
use Rattle.program_rules.specs.Includes.{includes_in, includes_in_arms}
use Rattle.program_files.proofs.includes.+includes.Given as goal

-- what is left to find stands behind what is found
abbrev pub invariant-find_in-loop-stmt : goal.invariant-find_in-loop-stmt
invariant-find_in-loop-stmt l = l.found.items ++ includes_in (stmts_of (drop l.stmt-index l.stmts)) ≡ l.initial.found.items ++ includes_in (stmts_of l.stmts)

abbrev pub invariant-find_in_arms-loop-arm : goal.invariant-find_in_arms-loop-arm
invariant-find_in_arms-loop-arm l = l.found.items ++ includes_in_arms (arms_of (drop l.arm-index l.arms)) ≡ l.initial.found.items ++ includes_in_arms (arms_of l.arms)

abbrev pub decreases-find_of : goal.decreases-find_of
decreases-find_of l = 8 * stmt_height (plain_stmt l.stmt.now)

abbrev pub decreases-find_in : goal.decreases-find_in
decreases-find_in l = 8 * stmts_height (stmts_of l.stmts.now) + 1

abbrev pub decreases-find_in_arms : goal.decreases-find_in_arms
decreases-find_in_arms l = 8 * arms_height (arms_of l.arms.now) + 2
