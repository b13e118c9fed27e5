-- What the rest of a run comes to that is kept as values: the call that goes on, and the calls that wait for one another.
use Rattle.std.specs.Prelude.{ℕ, zero, suc, List, [], ◌∷◌}
use Rattle.php_syntax.specs.Trees.{PlainFunction, plain_stmt, plain_function, stmts_of}
use Rattle.plain_values.specs.Plain.{Plain}
use Rattle.php_values.specs.View.{plain_of, plain_key, plain_list}
use Rattle.script_meaning.specs.Requests.{PlainRequest}
use Rattle.script_meaning.specs.Runs.{State, Run, Going, Over, ◌then_do◌, Deep, with_unit}
use Rattle.script_meaning.specs.Expressions.{Environment}
use Rattle.script_meaning.specs.Statements.{Flow, statement, statements, with_pair}
use Rattle.script_meaning.specs.Meaning.{Outcome, outcome_of, run_body, value_returned}
use Rattle.expr_evaluator.specs.Frames.{Entering, values_then, paused}
use Rattle.expr_evaluator.specs.Moves.{seeing}
use Rattle.expr_evaluator.specs.declared.frame.Pause.{Pause}
use Rattle.script_runs.specs.declared.frames.Wait.{Wait}
use Rattle.script_runs.specs.declared.frames.Task.TheVariants as task
use Rattle.script_runs.specs.declared.frames.Next.{Next}
use Rattle.script_runs.specs.Frames.{scope, focused, wait_after, task_after, tasks_then, plain_end, name_of}
use Rattle.script_runs.specs.declared.calls.Call.{Call}
use Rattle.script_runs.specs.declared.calls.Caller.{Caller}
use Rattle.script_runs.specs.declared.calls.Pending.{Pending}
use Rattle.script_runs.specs.declared.wants.Wanted.{Wanted}
use Rattle.script_runs.specs.declared.wants.Wanted.TheVariants as wanted
use Rattle.script_runs.specs.declared.wants.Settled.{Settled}
use Rattle.script_runs.specs.declared.wants.Settled.TheVariants as settled
use Rattle.script_runs.specs.declared.wants.Moved.{Moved}
use Rattle.script_runs.specs.declared.wants.Moved.TheVariants as moved

-- what a function of the script does with its arguments, where so many more calls may be opened
unfoldable pub enter_at : PlainRequest → List PlainFunction → ℕ → Entering
enter_at r fs zero f args s = Over Deep s.printed
enter_at r fs (suc room) f args s = run_body (scope r fs room) f args s

-- the state of a run with so many units left
abbrev pub state_of : ℕ → Pending → State
state_of left p = record { left = left; variables = p.current.evaluator.variables; printed = p.printed }

module _ (r : PlainRequest) (fs : List PlainFunction) where
  -- what a call evaluates its expressions in
  abbrev pub world_of : Call → Environment
  world_of c = scope r fs c.room

  -- what the callers make of how the body of the call above them was left, the innermost first: its value goes to the evaluation that
  -- waits,
  -- the value of that to what waits for it, and how this was left to the tasks behind it
  unfoldable pub callers_then : List Caller → Flow → State → Run Flow
  callers_then [] f s = Going f s
  callers_then (c ∷ cs) f s = values_then (world_of c.call) c.call.evaluator.frames (value_returned f)
      (seeing s c.call.evaluator.variables) then_do λ v s.
      (wait_after (world_of c.call) c.wait v s then_do λ f s. (tasks_then (world_of c.call) c.call.tasks f s then_do callers_then cs))

  -- what all that waits makes of how a statement was left
  unfoldable pub rest_then : Pending → Flow → State → Run Flow
  rest_then p f s = tasks_then (world_of p.current) p.current.tasks f s then_do callers_then p.callers

  -- what waits makes of the value of an expression, and the rest of it
  unfoldable pub wait_then : Pending → Wait → Plain → State → Run Flow
  wait_then p waits v s = wait_after (world_of p.current) waits v s then_do rest_then p

  -- what is to come, with this to do next and so many units left
  unfoldable pub ahead : Pending → Next → ℕ → Run Flow
  ahead p n left = focused (world_of p.current) n (state_of left p) then_do rest_then p

  -- what is to come once a unit was taken for what is wanted
  unfoldable pub wanted_then : Pending → Wanted → State → Run Flow
  wanted_then p (wanted.Statement st) s =
      statement (world_of p.current) (plain_stmt st.now) (record s { left = suc s.left }) then_do rest_then p
  wanted_then p (wanted.Turn l) s =
      statements (world_of p.current) (stmts_of l.body.now.items) s then_do λ f s.
      (task_after (world_of p.current) (task.Loop l) f s then_do rest_then p)
  wanted_then p (wanted.Step k v l) s =
      statements (world_of p.current) (stmts_of l.body.now.items)
      (with_pair (name_of l.key) l.value.now (plain_key k) (plain_of v) s) then_do λ f s.
      (task_after (world_of p.current) (task.Walk l) f s then_do rest_then p)
  wanted_then p (wanted.Call f args waits) s =
      enter_at r fs p.current.room (plain_function f.now) (plain_list args.items) s then_do λ v s.
      (values_then (world_of p.current) p.current.evaluator.frames v s then_do wait_then p waits)

  -- the outcome of the rest of a run with so many units left
  abbrev pub outcome : Pending → Next → ℕ → Outcome
  outcome p n left = outcome_of (ahead p n left)

  -- the same where it can go no further without a unit
  unfoldable pub settled_outcome : Pending → Settled → ℕ → Outcome
  settled_outcome p (settled.Wants w) left = outcome_of (with_unit (state_of left p) (wanted_then p w))
  settled_outcome p (settled.Over how) left = record { printed = p.printed; end = plain_end how }

  -- the same after a move
  abbrev pub moved_outcome : Pending → Moved → ℕ → Outcome
  moved_outcome p (moved.On n) left = outcome p n left
  moved_outcome p (moved.At x) left = settled_outcome p x left

  -- the same where an evaluation stopped, for whose value this waits
  unfoldable pub paused_outcome : Pending → Wait → Pause → ℕ → Outcome
  paused_outcome p waits stop left =
      outcome_of (paused (enter_at r fs p.current.room) stop (state_of left p) then_do λ v s.
      (values_then (world_of p.current) p.current.evaluator.frames v s then_do wait_then p waits))
