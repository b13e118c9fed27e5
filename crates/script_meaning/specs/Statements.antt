-- What a statement does (PHP manual, "Control structures", "echo", "exit", "Escaping from HTML"). Each statement takes one unit, and each
-- turn of a loop one
-- before its body.
use Rattle.std.specs.Prelude.{ℕ, zero, suc, Bool, true, if◌then◌else◌, List, [], ◌++◌, Option, Some, None}
use Rattle.php_syntax.specs.Trees.{PlainExpr, MaybeExpr, no_expr, some_expr, PlainExprs, no_exprs, more_exprs, PlainStmt, inline_stmt, echo_stmt, run_stmt, if_stmt, while_stmt, do_while_stmt, for_stmt, each_stmt, break_stmt, continue_stmt, return_stmt, include_stmt, quit_stmt, PlainStmts, no_stmts, more_stmts, PlainArms, no_arms, more_arms}
use Rattle.plain_values.specs.Plain.{Plain, PlainKey, Pairs, null, text, empty, pair}
use Rattle.plain_values.specs.Text.{text_of, truth}
use Rattle.plain_values.specs.Walks.{value_of_key, walked}
use Rattle.plain_values.specs.declared.fault.Fault.TheVariants.{WrongType}
use Rattle.script_meaning.specs.Runs.{State, Run, Going, Over, ◌then_do◌, Spent, Ended, Faulted, with_unit, unit_at, with_variable, printing}
use Rattle.script_meaning.specs.Expressions.{Environment, value, values, maybe_value}

-- how a statement is left: at its end, by `break`, by `continue`, or by `return` with a value
pub data Flow : Type 0 where
  goes_on : Flow
  breaks : Flow
  continues : Flow
  returns : Plain → Flow

-- goes on with the next statement
unfoldable pub next_after : Flow → State → (State → Run Flow) → Run Flow
next_after goes_on s go = go s
next_after breaks s go = Going breaks s
next_after continues s go = Going continues s
next_after (returns v) s go = Going (returns v) s

-- goes on after the body of a loop: `break` leaves the loop, and `continue` only its body
unfoldable pub turn_after : Flow → State → (State → Run Flow) → Run Flow
turn_after goes_on s go = go s
turn_after breaks s go = Going goes_on s
turn_after continues s go = go s
turn_after (returns v) s go = Going (returns v) s

-- one turn of a loop: a unit, and then the body
unfoldable pub turn : (State → Run Flow) → State → (State → Run Flow) → Run Flow
unfolding unit_at turn_after
turn body s go = with_unit s λ s. (body s then_do λ flow s. turn_after flow s go)

-- turns as long as a test holds, with something to do behind each; no more than some number of them, which is that of the units that are
-- left
unfoldable pub turns : ℕ → (State → Run Bool) → (State → Run Flow) → (State → Run (List Plain)) → State → Run Flow
unfolding turn
turns zero test body behind s = test s then_do λ holds s. (if holds then Over Spent s.printed else Going goes_on s)
turns (suc n) test body behind s =
    test s then_do λ holds s. (if holds then turn body s (λ s. (behind s then_do λ vs s. turns n test body behind s)) else Going goes_on s)

-- a loop: the test, and where it holds a turn and the loop again
unfoldable pub loop : (State → Run Bool) → (State → Run Flow) → (State → Run (List Plain)) → State → Run Flow
unfolding turns
loop test body behind s = turns s.left test body behind s

-- the variables of a turn of `foreach`: the key is set before the value (this project's order, which shows where both are one variable)
unfoldable pub with_pair : Option (List ℕ) → List ℕ → PlainKey → Plain → State → State
with_pair None x k v s = with_variable s x v
with_pair (Some key) x k v s = with_variable (with_variable s key (value_of_key k)) x v

-- a turn for each pair of an array
unfoldable pub walk : Pairs → Option (List ℕ) → List ℕ → (State → Run Flow) → State → Run Flow
unfolding turn with_pair
walk empty key x body s = Going goes_on s
walk (pair k v ps) key x body s = turn (λ s. body (with_pair key x k v s)) s (walk ps key x body)

-- what a condition answers
unfoldable pub condition : Environment → PlainExpr → State → Run Bool
condition w e s = value w e s then_do λ v s. Going (truth v) s

-- the condition of a `for`, which holds where none is written
unfoldable pub for_condition : Environment → MaybeExpr → State → Run Bool
unfolding condition
for_condition w no_expr s = Going true s
for_condition w (some_expr e) s = condition w e s

-- nothing to do behind a turn
unfoldable pub nothing : State → Run (List Plain)
nothing s = Going [] s

-- `echo`: each value is printed before the next one is evaluated
unfoldable pub echo : Environment → PlainExprs → State → Run Flow
echo w no_exprs s = Going goes_on s
echo w (more_exprs e es) s = value w e s then_do λ v s. echo w es (printing (text_of v) s)

-- the value of a `return`, and null where none is written
unfoldable pub returned : Option Plain → Flow
returned None = returns null
returned (Some v) = returns v

-- `exit` and `die` with a value, which has to be a text (this project's rule), print it; the run has ended
unfoldable pub exit_with : Option Plain → State → Run Flow
exit_with None s = Over Ended s.printed
exit_with (Some (text t)) s = Over Ended (s.printed ++ t)
exit_with (Some _) s = Over (Faulted WrongType) s.printed

unfoldable mutual
  unfolding unit_at next_after turn loop walk condition for_condition nothing echo returned exit_with

  -- how a statement is left, with the state behind it, or the end of the run within it
  pub statement : Environment → PlainStmt → State → Run Flow
  -- text outside PHP
  statement w (inline_stmt bytes) s = with_unit s λ s. Going goes_on (printing bytes s)
  statement w (echo_stmt es) s = with_unit s λ s. echo w es s
  statement w (run_stmt e) s = with_unit s λ s. (value w e s then_do λ v s. Going goes_on s)
  statement w (if_stmt arms otherwise) s = with_unit s λ s. arms_in w arms (statements w otherwise) s
  statement w (while_stmt e body) s = with_unit s λ s. loop (condition w e) (statements w body) nothing s
  -- one turn, and then what `while` does
  statement w (do_while_stmt body e) s =
      with_unit s λ s. turn (statements w body) s (λ s. loop (condition w e) (statements w body) nothing s)
  statement w (for_stmt begin e next body) s =
      with_unit s λ s. (values w begin s then_do λ vs s. loop (for_condition w e) (statements w body) (values w next) s)
  -- the array is walked as it was, whatever the body writes
  statement w (each_stmt e key x body) s = with_unit s λ s. (value w e s then_do λ v s. walk (walked v) key x (statements w body) s)
  statement w break_stmt s = with_unit s λ s. Going breaks s
  statement w continue_stmt s = with_unit s λ s. Going continues s
  statement w (return_stmt e) s = with_unit s λ s. (maybe_value w e s then_do λ v s. Going (returned v) s)
  -- `exit` and `die`
  statement w (quit_stmt e) s = with_unit s λ s. (maybe_value w e s then_do λ v s. exit_with v s)
  -- none stands in a program: the statements of its file stand in its place
  statement w (include_stmt path) s = Going goes_on s

  -- statements in turn, up to the first one that is not left at its end
  pub statements : Environment → PlainStmts → State → Run Flow
  statements w no_stmts s = Going goes_on s
  statements w (more_stmts st ss) s = statement w st s then_do λ flow s. next_after flow s (statements w ss)

  -- the body of the first arm whose condition holds, or what stands behind `else`
  pub arms_in : Environment → PlainArms → (State → Run Flow) → State → Run Flow
  arms_in w no_arms otherwise s = otherwise s
  arms_in w (more_arms e body arms) otherwise s =
      condition w e s then_do λ holds s. (if holds then statements w body s else arms_in w arms otherwise s)
