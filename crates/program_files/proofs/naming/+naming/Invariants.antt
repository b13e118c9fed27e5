use Rattle.std.proofs.Common.{◌≡◌, ℕ, ◌+◌, ◌*◌, ◌≤◌, length}
use Rattle.std.specs.Prelude.{slice_index_or}
use Rattle.php_syntax.specs.Trees.{plain_stmt, stmts_of, arms_of}
use Rattle.php_syntax.specs.Height.{stmt_height, stmts_height, arms_height}
use Rattle.program_rules.specs.Bodies.{with_bodies, with_bodies_in_arms}
use Rattle.program_files.specs.Steps.{placed_include}
use Rattle.program_files.proofs.Visits.{visited, visited_arms, Arm}
use Rattle.program_files.proofs.naming.+naming.Given as goal

abbrev pub decreases-name_of : goal.decreases-name_of
decreases-name_of l = 8 * stmt_height (plain_stmt l.stmt.now)

abbrev pub decreases-name_in : goal.decreases-name_in
decreases-name_in l = 8 * stmts_height (stmts_of l.stmts.now.items) + 1

abbrev pub decreases-name_in_arms : goal.decreases-name_in_arms
decreases-name_in_arms l = 8 * arms_height (arms_of l.arms.now.items) + 2

abbrev pub invariant-name_in-loop-place : goal.invariant-name_in-loop-place
invariant-name_in-loop-place l = (visited (placed_include l.naming.names.now.keys l.naming.main.now l.naming.file.now) l.place l.stmts.items ≡ with_bodies (placed_include l.naming.names.now.keys l.naming.main.now l.naming.file.now) (stmts_of l.initial.stmts.items)) × goal.unvisited-name_in-loop-place l

abbrev pub invariant-name_in_arms-loop-place : goal.invariant-name_in_arms-loop-place
invariant-name_in_arms-loop-place l = (visited_arms (placed_include l.naming.names.now.keys l.naming.main.now l.naming.file.now) l.place l.arms.items ≡ with_bodies_in_arms (placed_include l.naming.names.now.keys l.naming.main.now l.naming.file.now) (arms_of l.initial.arms.items)) × ((length l.arms.items ≡ length l.initial.arms.items) × ((k : ℕ) (d : Arm) → l.place ≤ k → slice_index_or l.arms.items k d ≡ slice_index_or l.initial.arms.items k d))
