use Rattle.std.proofs.Common.{◌≡◌, ◌+◌, ◌*◌, drop}
use Rattle.php_syntax.specs.Trees.{stmts_of, arms_of}
use Rattle.php_writer.specs.Tested.{stmts_good, arms_good}
use Rattle.php_writer.proofs.statement_tests.+statement_tests.Given as goal

abbrev pub decreases-is_good_stmt : goal.decreases-is_good_stmt
decreases-is_good_stmt l = 8 * l.room

abbrev pub decreases-are_good_stmts : goal.decreases-are_good_stmts
decreases-are_good_stmts l = 8 * l.room + 1

abbrev pub decreases-is_good_arm : goal.decreases-is_good_arm
decreases-is_good_arm l = 8 * l.room + 2

abbrev pub decreases-are_good_arms : goal.decreases-are_good_arms
decreases-are_good_arms l = 8 * l.room + 3

abbrev pub decreases-has_good_pieces : goal.decreases-has_good_pieces
decreases-has_good_pieces l = 8 * l.room + 4

-- what is left to test decides
abbrev pub invariant-are_good_stmts-loop-stmt : goal.invariant-are_good_stmts-loop-stmt
invariant-are_good_stmts-loop-stmt l = stmts_good (stmts_of (drop l.stmt-index l.stmts)) l.in_loop l.in_function l.room ≡ stmts_good (stmts_of l.stmts) l.in_loop l.in_function l.room

abbrev pub invariant-are_good_arms-loop-arm : goal.invariant-are_good_arms-loop-arm
invariant-are_good_arms-loop-arm l = arms_good (arms_of (drop l.arm-index l.arms)) l.in_loop l.in_function l.room ≡ arms_good (arms_of l.arms) l.in_loop l.in_function l.room
