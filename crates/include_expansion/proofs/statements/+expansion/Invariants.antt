use Rattle.std.proofs.Common.{◌≡◌, ◌+◌, ◌*◌, drop}
use Rattle.php_syntax.specs.Trees.{plain_stmt, stmts_of, arms_of}
use Rattle.php_syntax.specs.Height.{stmt_height, stmts_height, arms_height}
use Rattle.program_rules.specs.Bodies.{followed_by, with_bodies, with_bodies_in_arms}
use Rattle.program_files.specs.View.{files_of}
use Rattle.include_expansion.specs.Within.{bodies_within}
use Rattle.include_expansion.proofs.Measures.{reach}
use Rattle.include_expansion.proofs.ArmLemmas.{arms_then}
use Rattle.include_expansion.proofs.statements.+expansion.Given as goal

abbrev pub decreases-expand_stmt : goal.decreases-expand_stmt
decreases-expand_stmt l = reach (files_of l.files.now) l.nesting + 8 * stmt_height (plain_stmt l.stmt.now)

abbrev pub decreases-expand_stmts : goal.decreases-expand_stmts
decreases-expand_stmts l = reach (files_of l.files.now) l.nesting + (8 * stmts_height (stmts_of l.stmts.now) + 1)

abbrev pub decreases-expand_body : goal.decreases-expand_body
decreases-expand_body l = reach (files_of l.files.now) l.nesting + (8 * stmts_height (stmts_of l.stmts.now) + 2)

abbrev pub decreases-expand_file : goal.decreases-expand_file
decreases-expand_file l = reach (files_of l.files.now) l.nesting + 3

abbrev pub decreases-expand_arms : goal.decreases-expand_arms
decreases-expand_arms l = reach (files_of l.files.now) l.nesting + (8 * arms_height (arms_of l.arms.now) + 3)

abbrev pub invariant-expand_stmts-loop-stmt : goal.invariant-expand_stmts-loop-stmt
invariant-expand_stmts-loop-stmt l =
    followed_by (stmts_of l.out.items) (with_bodies (bodies_within (files_of l.files) l.nesting) (stmts_of (drop l.stmt-index l.stmts)))
    ≡ followed_by (stmts_of l.initial.out.items) (with_bodies (bodies_within (files_of l.files) l.nesting) (stmts_of l.stmts))

abbrev pub invariant-expand_arms-loop-arm : goal.invariant-expand_arms-loop-arm
invariant-expand_arms-loop-arm l =
    arms_then l.copies.items (with_bodies_in_arms (bodies_within (files_of l.files) l.nesting) (arms_of (drop l.arm-index l.arms))) ≡ with_bodies_in_arms (bodies_within (files_of l.files) l.nesting) (arms_of l.arms)
