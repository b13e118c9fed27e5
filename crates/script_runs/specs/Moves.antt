-- What one move comes to.
use Rattle.std.specs.Prelude.{◌≡◌, ◌<◌, ◌+◌, ⊤, ℕ, suc, false, [], ◌∷◌, List}
use Rattle.std.specs.Borrow.{Bor}
use Rattle.php_syntax.specs.declared.tree.Stmt.{Stmt}
use Rattle.php_syntax.specs.Trees.{PlainFunction, more_stmts, plain_stmt, stmts_of}
use Rattle.plain_values.specs.Plain.{Plain, PlainKey}
use Rattle.script_meaning.specs.Requests.{PlainRequest}
use Rattle.script_meaning.specs.Runs.{State, Variables, ◌then_do◌}
use Rattle.script_meaning.specs.Statements.{with_pair, statements}
use Rattle.script_meaning.specs.Meaning.{outcome_of}
use Rattle.expr_evaluator.specs.Moves.{seeing}
use Rattle.expr_evaluator.specs.declared.frame.Pause.{Pause}
use Rattle.expr_evaluator.specs.declared.frame.Pause.TheVariants as pause
use Rattle.script_runs.specs.declared.frames.Wait.{Wait}
use Rattle.script_runs.specs.declared.frames.Flow.{Flow}
use Rattle.script_runs.specs.declared.frames.Walking.{Walking}
use Rattle.script_runs.specs.declared.frames.Next.{Next}
use Rattle.script_runs.specs.declared.frames.Next.TheVariants as next
use Rattle.script_runs.specs.Frames.{name_of, plain_flow, is_include}
use Rattle.script_runs.specs.Cost.{wait_weight, block_weight}
use Rattle.script_runs.specs.declared.calls.Caller.{Caller}
use Rattle.script_runs.specs.declared.calls.Pending.{Pending}
use Rattle.script_runs.specs.declared.wants.Wanted.{Wanted}
use Rattle.script_runs.specs.declared.wants.Wanted.TheVariants as wanted
use Rattle.script_runs.specs.declared.wants.Settled.{Settled}
use Rattle.script_runs.specs.declared.wants.Settled.TheVariants as settled
use Rattle.script_runs.specs.declared.wants.Moved.{Moved}
use Rattle.script_runs.specs.declared.wants.Moved.TheVariants as moved
use Rattle.script_runs.specs.Rest.{outcome, settled_outcome, moved_outcome, paused_outcome, wanted_then, rest_then, callers_then, world_of, state_of}
use Rattle.script_runs.specs.Weights.{weight, rest_weight, callers_weight}

-- no expression is being evaluated
abbrev pub IsIdle : Pending → Type 0
IsIdle p = p.current.evaluator.frames ≡ []

-- no expression is being evaluated, unless the run ends
abbrev pub IsReady : Pending → Next → Type 0
IsReady p (next.Block ss) = IsIdle p
IsReady p (next.Left f) = IsIdle p
IsReady p (next.Eval e waits) = IsIdle p
IsReady p (next.Turn l) = IsIdle p
IsReady p (next.Step k v l) = IsIdle p
IsReady p (next.Over how) = ⊤

-- none is, unless what is wanted is a call, for which one waits; a statement is no `include`
abbrev pub MayTake : Pending → Wanted → Type 0
MayTake p (wanted.Statement st) = IsIdle p × (is_include (plain_stmt st.now) ≡ false)
MayTake p (wanted.Turn l) = IsIdle p
MayTake p (wanted.Step k v l) = IsIdle p
MayTake p (wanted.Call f args waits) = ⊤

-- where a unit is wanted it may be taken; at an end nothing is asked
abbrev pub IsSettled : Pending → Settled → Type 0
IsSettled p (settled.Wants w) = MayTake p w
IsSettled p (settled.Over how) = ⊤

-- a run goes on up to where it wants a unit, or ends: its outcome stays the same, for each number of units that may be left
pub record Settles (r : PlainRequest) (fs : List PlainFunction) (p : Pending) (n : Next) (x : Settled) (p' : Pending) : Type 0 where
  pub same : (left : ℕ) → settled_outcome r fs p' x left ≡ outcome r fs p n left
  pub settled : IsSettled p' x

-- a unit was taken for what was wanted: what is to come is what it was wanted for
pub record Pays (r : PlainRequest) (fs : List PlainFunction) (p : Pending) (w : Wanted) (n : Next) (p' : Pending) : Type 0 where
  pub same : (left : ℕ) → outcome r fs p' n left ≡ outcome_of (wanted_then r fs p w (state_of left p))
  pub ready : IsReady p' n

-- a move leads to this: no expression is being evaluated then, and less is left to do
abbrev pub LeadsOn : Pending → Moved → ℕ → Type 0
LeadsOn p (moved.On n) most = IsIdle p × (weight p n < most)
LeadsOn p (moved.At x) most = IsSettled p x

-- one move: the outcome stays the same
pub record Moves (r : PlainRequest) (fs : List PlainFunction) (p : Pending) (n : Next) (m : Moved) (p' : Pending) : Type 0 where
  pub same : (left : ℕ) → moved_outcome r fs p' m left ≡ outcome r fs p n left
  pub leads : LeadsOn p' m (weight p n)

-- a move from where an evaluation stopped
pub record Resumes (r : PlainRequest) (fs : List PlainFunction) (p : Pending) (waits : Wait) (stop : Pause) (m : Moved) (p' : Pending) :
    Type 0 where
  pub same : (left : ℕ) → moved_outcome r fs p' m left ≡ paused_outcome r fs p waits stop left
  pub leads : LeadsOn p' m (suc (wait_weight waits + rest_weight p))

-- a move from the end of a call to what waits for its value
pub record Returns (r : PlainRequest) (fs : List PlainFunction) (p : Pending) (caller : Caller) (f : Flow) (m : Moved) (p' : Pending) :
    Type 0 where
  pub same : (left : ℕ) → moved_outcome r fs p' m left ≡ outcome_of (callers_then r fs (caller ∷ p.callers) (plain_flow f)
      (state_of left p))
  pub leads : LeadsOn p' m (suc (callers_weight (caller ∷ p.callers)))

-- a move into statements, of which this is the first
pub record Enters (r : PlainRequest) (fs : List PlainFunction) (p : Pending) (first : Bor Stmt) (rest : Bor (List Stmt)) (m : Moved)
    (p' : Pending) : Type 0 where
  pub same : (left : ℕ) → moved_outcome r fs p' m left ≡ outcome_of (statements (world_of r fs p.current)
      (more_stmts (plain_stmt first.now) (stmts_of rest.now)) (state_of left p) then_do rest_then r fs p)
  pub leads : LeadsOn p' m (suc (block_weight rest.now + rest_weight p))

-- a move that hands on how a statement was left
pub record Leaves (r : PlainRequest) (fs : List PlainFunction) (p : Pending) (f : Flow) (m : Moved) (p' : Pending) : Type 0 where
  pub same : (left : ℕ) → moved_outcome r fs p' m left ≡ outcome_of (rest_then r fs p (plain_flow f) (state_of left p))
  pub leads : LeadsOn p' m (suc (rest_weight p))

-- where a value pauses an evaluation nothing is left to evaluate
abbrev pub Stops : Pending → Pause → Type 0
Stops p (pause.Value v) = IsIdle p
Stops p (pause.Call f args) = ⊤
Stops p (pause.Fault fault) = ⊤

-- the variables of a step of a walk were written
abbrev pub SetsPair : Walking → PlainKey → Plain → Variables → Variables → Type 0
SetsPair l k v before after = (s : State) → seeing s after ≡ with_pair (name_of l.key) l.value.now k v (seeing s before)
