-- What one move comes to.
use Rattle.std.specs.Prelude.{◌≡◌, ◌≤◌, ℕ, suc, false, List, Some}
use Rattle.php_syntax.specs.declared.tree.Stmt.{Stmt}
use Rattle.php_syntax.specs.Trees.{PlainFunction, plain_stmt}
use Rattle.plain_values.specs.Plain.{Plain}
use Rattle.script_meaning.specs.Requests.{PlainRequest}
use Rattle.script_meaning.specs.Runs.{State, Run, Over}
use Rattle.script_meaning.specs.Expressions.{Environment}
use Rattle.script_meaning.specs.Statements as meaning
use Rattle.script_meaning.specs.Statements.{statement, exit_with}
use Rattle.script_runs.specs.declared.frames.End.{End}
use Rattle.script_runs.specs.declared.frames.Wait.{Wait}
use Rattle.script_runs.specs.declared.frames.Next.{Next}
use Rattle.script_runs.specs.Frames.{scope, focused, wait_after, plain_end, is_include}
use Rattle.script_runs.specs.Cost.{next_weight, wait_weight}

-- what is next comes to what is said, and has no more to do than so much
pub record Means (n : Next) (act : Environment → State → Run meaning.Flow) (most : ℕ) : Type 0 where
  pub same : (r : PlainRequest) (fs : List PlainFunction) (room : ℕ) (s : State) → focused (scope r fs room) n s ≡ act (scope r fs room) s
  pub light : next_weight n ≤ most

-- a statement was begun, once its unit was taken: what is next comes to the statement
pub record Begins (st : Stmt) (before : List ℕ) (n : Next) (after : List ℕ) : Type 0 where
  pub same : is_include (plain_stmt st) ≡ false → (r : PlainRequest) (fs : List PlainFunction) (room : ℕ) (s : State)
      → focused (scope r fs room) n (record s { printed = after })
      ≡ statement (scope r fs room) (plain_stmt st) (record s { left = suc s.left; printed = before })

-- a value was given to what waits for it
pub record Gives (waits : Wait) (v : Plain) (before : List ℕ) (n : Next) (after : List ℕ) : Type 0 where
  pub same : (r : PlainRequest) (fs : List PlainFunction) (room : ℕ) (s : State)
      → focused (scope r fs room) n (record s { printed = after }) ≡ wait_after (scope r fs room) waits v (record s { printed = before })
  pub light : next_weight n ≤ wait_weight waits

-- `exit` with a value
pub record Quits (v : Plain) (before : List ℕ) (how : End) (after : List ℕ) : Type 0 where
  pub same : (s : State) → Over (plain_end how) after ≡ exit_with (Some v) (record s { printed = before })
