-- What the rest of a run comes to that these values stand for: what is to be done next, what waits for a value, what waits for the end of a
-- statement.
use Rattle.std.specs.Prelude.{◌≡◌, ℕ, Bool, true, false, if◌then◌else◌, List, [], ◌∷◌, Option, Some, None}
use Rattle.std.specs.Borrow.{Bor}
use Rattle.std.specs.declared.vec.Vec.{Vec}
use Rattle.std.specs.declared.alloc.Global.{Global}
use Rattle.php_syntax.specs.declared.tree.Expr.{Expr}
use Rattle.php_syntax.specs.declared.tree.Stmt.{Stmt}
use Rattle.php_syntax.specs.Trees.{MaybeExpr, no_expr, some_expr, PlainExprs, PlainFunction, PlainStmt, inline_stmt, echo_stmt, run_stmt, if_stmt, while_stmt, do_while_stmt, for_stmt, each_stmt, break_stmt, continue_stmt, return_stmt, include_stmt, quit_stmt, plain_expr, exprs_of, stmts_of, arms_of}
use Rattle.plain_values.specs.Plain.{Plain}
use Rattle.plain_values.specs.Text.{text_of, truth}
use Rattle.plain_values.specs.Walks.{walked}
use Rattle.php_values.specs.View.{plain_of, plain_key}
use Rattle.script_meaning.specs.Requests.{PlainRequest}
use Rattle.script_meaning.specs.Runs as runs
use Rattle.script_meaning.specs.Runs.{State, Run, Going, Over, ◌then_do◌, printing}
use Rattle.script_meaning.specs.Expressions.{Environment, value, values, maybe_value}
use Rattle.script_meaning.specs.Statements as meaning
use Rattle.script_meaning.specs.Statements.{turn, loop, walk, with_pair, for_condition, echo, exit_with, statements, arms_in, next_after, turn_after, returned}
use Rattle.script_meaning.specs.Meaning.{call_within}
use Rattle.script_runs.specs.declared.frames.End.{End}
use Rattle.script_runs.specs.declared.frames.End.TheVariants as end
use Rattle.script_runs.specs.declared.frames.Flow.{Flow}
use Rattle.script_runs.specs.declared.frames.Flow.TheVariants as flow
use Rattle.script_runs.specs.declared.frames.Looping.{Looping}
use Rattle.script_runs.specs.declared.frames.Walking.{Walking}
use Rattle.script_runs.specs.declared.frames.Wait.{Wait}
use Rattle.script_runs.specs.declared.frames.Wait.TheVariants as wait
use Rattle.script_runs.specs.declared.frames.Task.{Task}
use Rattle.script_runs.specs.declared.frames.Task.TheVariants as task
use Rattle.script_runs.specs.declared.frames.Next.{Next}
use Rattle.script_runs.specs.declared.frames.Next.TheVariants as next

-- an expression by a reference to it, if there is one
abbrev pub maybe_plain : Option (Bor Expr) → MaybeExpr
maybe_plain None = no_expr
maybe_plain (Some e) = some_expr (plain_expr e.now)

-- what expressions are evaluated in where so many more calls may be opened
abbrev pub scope : PlainRequest → List PlainFunction → ℕ → Environment
scope r fs room = record { request = r; call = call_within r fs room }

-- how a run ends
abbrev pub plain_end : End → runs.End
plain_end end.Ended = runs.Ended
plain_end (end.Fault fault) = runs.Faulted fault
plain_end end.Spent = runs.Spent
plain_end end.Deep = runs.Deep

-- how a statement was left
abbrev pub plain_flow : Flow → meaning.Flow
plain_flow flow.GoesOn = meaning.goes_on
plain_flow flow.Breaks = meaning.breaks
plain_flow flow.Continues = meaning.continues
plain_flow (flow.Returns v) = meaning.returns (plain_of v)

-- a name by a reference to it, if there is one
abbrev pub name_of : Option (Bor (List ℕ)) → Option (List ℕ)
name_of None = None
name_of (Some x) = Some x.now

-- an `include` stands in no program
abbrev pub is_include : PlainStmt → Bool
is_include (inline_stmt bytes) = false
is_include (echo_stmt es) = false
is_include (run_stmt e) = false
is_include (if_stmt arms otherwise) = false
is_include (while_stmt e body) = false
is_include (do_while_stmt body e) = false
is_include (for_stmt begin e behind body) = false
is_include (each_stmt e key x body) = false
is_include break_stmt = false
is_include continue_stmt = false
is_include (return_stmt e) = false
is_include (include_stmt path) = true
is_include (quit_stmt e) = false

-- a loop from its test on
unfoldable pub looping : Environment → Looping → State → Run meaning.Flow
looping w l = loop (for_condition w (maybe_plain l.test)) (statements w (stmts_of l.body.now.items)) (values w (exprs_of l.behind.now))

-- expressions, and then a loop from its test on
unfoldable pub values_before : Environment → PlainExprs → Looping → State → Run meaning.Flow
values_before w es l s = values w es s then_do λ vs s. looping w l s

-- a turn of a loop, and the loop again
unfoldable pub turning : Environment → Looping → State → Run meaning.Flow
turning w l s = turn (statements w (stmts_of l.body.now.items)) s (values_before w (exprs_of l.behind.now) l)

-- a walk from its next pair on
unfoldable pub walking : Environment → Walking → State → Run meaning.Flow
walking w l s = walk l.pairs (name_of l.key) l.value.now (statements w (stmts_of l.body.now.items)) s

-- a walk over a value
unfoldable pub each_value : Environment → Option (Bor (List ℕ)) → Bor (List ℕ) → Bor (Vec Stmt Global) → Plain → State → Run meaning.Flow
each_value w key x body v s = walk (walked v) (name_of key) x.now (statements w (stmts_of body.now.items)) s

-- `return` and `exit`, with a value or without
unfoldable pub returning : Environment → MaybeExpr → State → Run meaning.Flow
returning w e s = maybe_value w e s then_do λ v s. Going (returned v) s

-- `exit`, with a value or without
unfoldable pub quitting : Environment → MaybeExpr → State → Run meaning.Flow
quitting w e s = maybe_value w e s then_do λ v s. exit_with v s

-- what is made of the value that is waited for
unfoldable pub wait_after : Environment → Wait → Plain → State → Run meaning.Flow
wait_after w (wait.Echo es) v s = echo w (exprs_of es.now) (printing (text_of v) s)
wait_after w wait.Run v s = Going meaning.goes_on s
wait_after w (wait.Arm body arms otherwise) v s =
    if truth v then statements w (stmts_of body.now.items) s
    else arms_in w (arms_of arms.now) (statements w (stmts_of otherwise.now.items)) s
wait_after w (wait.Test l) v s = if truth v then turning w l s else Going meaning.goes_on s
wait_after w (wait.Before es l) v s = values_before w (exprs_of es.now) l s
wait_after w (wait.Each key x body) v s = each_value w key x body v s
wait_after w wait.Return v s = Going (meaning.returns v) s
wait_after w wait.Quit v s = exit_with (Some v) s

-- what is made of how a statement was left
unfoldable pub task_after : Environment → Task → meaning.Flow → State → Run meaning.Flow
task_after w (task.Rest ss) f s = next_after f s (statements w (stmts_of ss.now))
task_after w (task.Loop l) f s = turn_after f s (values_before w (exprs_of l.behind.now) l)
task_after w (task.Walk l) f s = turn_after f s (walking w l)

-- what all that waits makes of how a statement was left, the first of it first
unfoldable pub tasks_then : Environment → List Task → meaning.Flow → State → Run meaning.Flow
tasks_then w [] f s = Going f s
tasks_then w (t ∷ ts) f s = task_after w t f s then_do tasks_then w ts

-- what is done next, by itself
unfoldable pub focused : Environment → Next → State → Run meaning.Flow
focused w (next.Block ss) s = statements w (stmts_of ss.now) s
focused w (next.Left f) s = Going (plain_flow f) s
focused w (next.Eval e waits) s = value w (plain_expr e.now) s then_do wait_after w waits
focused w (next.Turn l) s = turning w l s
focused w (next.Step k v l) s =
    turn (λ s. statements w (stmts_of l.body.now.items) (with_pair (name_of l.key) l.value.now (plain_key k) (plain_of v) s)) s
    (walking w l)
focused w (next.Over how) s = Over (plain_end how) s.printed

-- `while`: a loop with nothing behind its turns
pub record IsWhile (e : Bor Expr) (body : Bor (Vec Stmt Global)) (l : Looping) : Type 0 where
  pub tests : l.test ≡ Some e
  pub nothing_behind : l.behind.now ≡ []
  pub runs_body : l.body ≡ body

-- a loop goes on behind a turn, or is left
abbrev pub StaysInLoop : meaning.Flow → Type 0
StaysInLoop f = (s : State) (go : State → Run meaning.Flow) → turn_after f s go ≡ go s

-- behind a turn that was left in the first way the loop is over, and was left in the second way
abbrev pub LeavesLoop : meaning.Flow → meaning.Flow → Type 0
LeavesLoop f left = (s : State) (go : State → Run meaning.Flow) → turn_after f s go ≡ Going left s
