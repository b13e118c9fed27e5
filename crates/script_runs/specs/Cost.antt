-- How much is still to be done before a unit is taken: with every move it is less. No promise is read off from here.
use Rattle.std.specs.Prelude.{ℕ, ◌+◌, List, [], ◌∷◌}
use Rattle.std.specs.declared.vec.Vec.{Vec}
use Rattle.std.specs.declared.alloc.Global.{Global}
use Rattle.php_syntax.specs.declared.tree.Expr.{Expr}
use Rattle.php_syntax.specs.declared.tree.Stmt.{Stmt}
use Rattle.script_runs.specs.declared.frames.Wait.{Wait}
use Rattle.script_runs.specs.declared.frames.Wait.TheVariants as wait
use Rattle.script_runs.specs.declared.frames.Task.{Task}
use Rattle.script_runs.specs.declared.frames.Task.TheVariants as task
use Rattle.script_runs.specs.declared.frames.Next.{Next}
use Rattle.script_runs.specs.declared.frames.Next.TheVariants as next

-- what is to be done for expressions in a row and behind them
unfoldable pub row_weight : List Expr → ℕ
row_weight [] = 3
row_weight (e ∷ es) = 2 + row_weight es

-- what is to be done for statements in a row and behind them
unfoldable pub block_weight : List Stmt → ℕ
block_weight [] = 2
block_weight (s ∷ ss) = 1 + block_weight ss

-- what is to be done for the arms of an `if` and its `else`, though one of them at most runs
unfoldable pub arms_weight : List (Expr × Vec Stmt Global) → List Stmt → ℕ
arms_weight [] otherwise = block_weight otherwise
arms_weight (a ∷ rest) otherwise = 2 + block_weight a.1.items + arms_weight rest otherwise

-- what is to be done behind a value that is waited for
unfoldable pub wait_weight : Wait → ℕ
wait_weight (wait.Echo es) = row_weight es.now
wait_weight wait.Run = 1
wait_weight (wait.Arm body arms otherwise) = block_weight body.now.items + arms_weight arms.now otherwise.now.items
wait_weight (wait.Test l) = 1
wait_weight (wait.Before es l) = row_weight es.now
wait_weight (wait.Each key x body) = 1
wait_weight wait.Return = 1
wait_weight wait.Quit = 1

-- what is to be done behind a statement; a loop takes a unit before its next turn
unfoldable pub task_weight : Task → ℕ
task_weight (task.Rest ss) = block_weight ss.now
task_weight (task.Loop l) = row_weight l.behind.now
task_weight (task.Walk l) = 1

-- the same for all that waits for the end of a statement
unfoldable pub tasks_weight : List Task → ℕ
tasks_weight [] = 0
tasks_weight (t ∷ ts) = task_weight t + tasks_weight ts

-- what is to be done for what comes next, before a unit is taken or the run ends
unfoldable pub next_weight : Next → ℕ
next_weight (next.Block ss) = block_weight ss.now
next_weight (next.Left f) = 1
next_weight (next.Eval e waits) = 1 + wait_weight waits
next_weight (next.Turn l) = 0
next_weight (next.Step k v l) = 0
next_weight (next.Over how) = 0
