-- The moves between two units.
use Rattle.std.proofs.Common.{◌≡◌, ℕ, suc, ◌<◌, List, [], ◌∷◌, refl, sym, ap, ◌∙◌, subst, arith, Bor, true, false}
use Rattle.std.specs.Prelude.{Result, Ok, Err, IfOk}
use Rattle.text_base.specs.declared.memory.NoMemory.{NoMemory}
use Rattle.php_syntax.specs.declared.tree.Expr.{Expr}
use Rattle.php_syntax.specs.declared.tree.Stmt.{Stmt}
use Rattle.php_syntax.specs.declared.tree.FunctionDef.{FunctionDef}
use Rattle.php_syntax.specs.Trees.{PlainFunction, plain_stmt, plain_expr, stmts_of}
use Rattle.plain_values.specs.declared.fault.Fault.{Fault}
use Rattle.php_values.specs.declared.array.Value.{Value}
use Rattle.php_values.specs.declared.key.Key.{Key}
use Rattle.php_values.specs.View.{plain_of, plain_key}
use Rattle.std.specs.declared.vec.Vec.{Vec}
use Rattle.std.specs.declared.alloc.Global.{Global}
use Rattle.script_meaning.specs.Requests.{PlainRequest}
use Rattle.script_meaning.specs.Runs.{◌then_do◌}
use Rattle.script_meaning.specs.Expressions.{value}
use Rattle.script_meaning.specs.Statements.{statement, statements, next_after, turn, with_pair}
use Rattle.script_meaning.specs.Meaning.{outcome_of, value_returned}
use Rattle.expr_evaluator.proofs.Runs.{assoc, same_then}
use Rattle.expr_evaluator.specs.Frames as evaluation
use Rattle.expr_evaluator.specs.Frames.{values_then, paused}
use Rattle.expr_evaluator.specs.Moves.{Pauses, seeing}
use Rattle.expr_evaluator.specs.declared.frame.Focus.TheVariants as focus
use Rattle.expr_evaluator.specs.declared.frame.Pause.{Pause}
use Rattle.expr_evaluator.specs.declared.frame.Pause.TheVariants as pause
use Rattle.expr_evaluator.specs.declared.evaluator.Evaluator.{Evaluator}
use Rattle.script_runs.specs.declared.frames.End.{End}
use Rattle.script_runs.specs.declared.frames.End.TheVariants as end
use Rattle.script_runs.specs.declared.frames.Flow.{Flow}
use Rattle.script_runs.specs.declared.frames.Flow.TheVariants as flow
use Rattle.script_runs.specs.declared.frames.Looping.{Looping}
use Rattle.script_runs.specs.declared.frames.Walking.{Walking}
use Rattle.script_runs.specs.declared.frames.Wait.{Wait}
use Rattle.script_runs.specs.declared.frames.Task.{Task}
use Rattle.script_runs.specs.declared.frames.Task.TheVariants as task
use Rattle.script_runs.specs.declared.frames.Next.{Next}
use Rattle.script_runs.specs.declared.frames.Next.TheVariants as next
use Rattle.script_runs.specs.Frames.{focused, wait_after, task_after, tasks_then, turning, plain_flow, name_of, is_include}
use Rattle.script_runs.specs.Cost.{next_weight, block_weight, task_weight, tasks_weight}
use Rattle.script_runs.specs.StatementMoves.{Means, Gives}
use Rattle.script_runs.specs.declared.calls.Caller.{Caller}
use Rattle.script_runs.specs.declared.calls.Pending.{Pending}
use Rattle.script_runs.specs.declared.wants.Wanted.TheVariants as wanted
use Rattle.script_runs.specs.declared.wants.Settled.{Settled}
use Rattle.script_runs.specs.declared.wants.Settled.TheVariants as settled
use Rattle.script_runs.specs.declared.wants.Moved.{Moved}
use Rattle.script_runs.specs.declared.wants.Moved.TheVariants as moved
use Rattle.script_runs.specs.Rest.{world_of, callers_then, rest_then, wait_then, state_of, ahead, wanted_then, outcome, settled_outcome, paused_outcome}
use Rattle.script_runs.specs.Weights.{callers_weight, rest_weight, weight}
use Rattle.script_runs.specs.Moves.{IsIdle, IsReady, LeadsOn, Settles, Moves, Resumes, Returns, Enters, Leaves, Stops}
use Rattle.script_runs.proofs.UnitLemmas.{holding, unit_then, same_unit, takes_unit, include_goes_on, stopped, rest_pushed, rest_popped}

-- a value leaves nothing to evaluate
pub idle_at : (p : Pending) (stop : Pause) (v : Value) → stop ≡ pause.Value v → Stops p stop → IsIdle p
idle_at p stop v is h = subst (λ x. Stops p x) is h

-- the same of what is next, by another equation
pub moves_as : (r : PlainRequest) (fs : List PlainFunction) (p : Pending) (n n' : Next) (m : Moved) (p' : Pending) → n ≡ n' → Moves r fs p n' m p' → Moves r fs p n m p'
moves_as r fs p n n' m p' e h = subst (λ x. Moves r fs p x m p') (sym e) h

pub ready_as : (p : Pending) (n n' : Next) → n ≡ n' → IsReady p n → IsReady p n'
ready_as p n n' e h = subst (λ x. IsReady p x) e h

module _ (r : PlainRequest) (fs : List PlainFunction) (p : Pending) where
  -- an evaluation stopped at a value
  pub resumed_value : (waits : Wait) (stop : Pause) (v : Value) (n : Next) (after : List ℕ) → stop ≡ pause.Value v → IsIdle p → Gives waits (plain_of v) p.printed n after
      → Resumes r fs p waits stop (moved.On n) (holding p p.current.evaluator p.current.tasks after)
  unfolding ahead paused_outcome paused wait_then rest_then values_then ◌then_do◌ rest_weight weight
  resumed_value waits stop v n after is idle g = record {
    same = λ left. ap (λ run. outcome_of (run then_do rest_then r fs p)) (g.same r fs p.current.room (state_of left p))
        ∙ ap (λ frames. outcome_of (values_then (world_of r fs p.current) frames (plain_of v) (state_of left p) then_do wait_then r fs p waits)) (sym idle)
        ∙ ap (λ x. paused_outcome r fs p waits x left) (sym is);
    leads = (idle, omega (arith, g.light));
  }

  -- at a call
  pub resumed_call : (waits : Wait) (stop : Pause) (f : Bor FunctionDef) (args : Vec Value Global) → stop ≡ pause.Call f args
      → Resumes r fs p waits stop (moved.At (settled.Wants (wanted.Call f args waits))) p
  unfolding paused_outcome settled_outcome wanted_then paused
  resumed_call waits stop f args is = record {
    same = λ left. ap outcome_of (sym (unit_then left (state_of left p) _ _)) ∙ ap (λ x. paused_outcome r fs p waits x left) (sym is);
    leads = tt;
  }

  -- at a fault
  pub resumed_fault : (waits : Wait) (stop : Pause) (fault : Fault) → stop ≡ pause.Fault fault → Resumes r fs p waits stop (moved.At (settled.Over (end.Fault fault))) p
  unfolding paused_outcome settled_outcome paused ◌then_do◌ outcome_of
  resumed_fault waits stop fault is = record {
    same = λ left. ap (λ x. paused_outcome r fs p waits x left) (sym is);
    leads = tt;
  }

  -- an expression was evaluated up to where it stopped
  pub moves_evaluated : (e : Bor Expr) (waits : Wait) (stop : Pause) (m' : Evaluator) (m : Moved) (p' : Pending) → IsIdle p → Pauses r fs (focus.Eval e) p.current.evaluator stop m'
      → Resumes r fs (holding p m' p.current.tasks p.printed) waits stop m p' → Moves r fs p (next.Eval e waits) m p'
  unfolding ahead focused paused_outcome evaluation.focused wait_then rest_then values_then ◌then_do◌ rest_weight weight next_weight
  moves_evaluated e waits stop m' m p' idle h g = record {
    same = λ left. g.same left
        ∙ ap outcome_of (stopped r fs p.current.room (focus.Eval e) p.current.evaluator m' stop (wait_then r fs p waits) h (state_of left p)
        ∙ ap (λ frames. value (world_of r fs p.current) (plain_expr e.now) (state_of left p) then_do λ v t. (values_then (world_of r fs p.current) frames v t then_do wait_then r fs p waits)) idle
        ∙ sym (assoc (value (world_of r fs p.current) (plain_expr e.now) (state_of left p)) _ _));
    leads = subst (λ most. LeadsOn p' m most) (omega arith) g.leads;
  }

  -- a caller goes on with the value of the call that it waits for
  pub returns_to : (c : Caller) (f : Flow) (v : Value) (stop : Pause) (m' : Evaluator) (m : Moved) (p' : Pending) → plain_of v ≡ value_returned (plain_flow f)
      → Pauses r fs (focus.Value v) c.call.evaluator stop m'
      → Resumes r fs (record { current = record { room = c.call.room; evaluator = m'; tasks = c.call.tasks }; callers = p.callers; printed = p.printed }) c.wait stop m p' → Returns r fs p c f m p'
  unfolding paused_outcome evaluation.focused wait_then rest_then callers_then ◌then_do◌ rest_weight callers_weight
  returns_to c f v stop m' m p' is h g = record {
    same = λ left. g.same left
        ∙ ap outcome_of (stopped r fs c.call.room (focus.Value v) c.call.evaluator m' stop _ h (state_of left p))
        ∙ ap (λ x. outcome_of (values_then (world_of r fs c.call) c.call.evaluator.frames x (seeing (state_of left p) c.call.evaluator.variables) then_do λ v s. (wait_after (world_of r fs c.call) c.wait v s then_do λ f s. (tasks_then (world_of r fs c.call) c.call.tasks f s then_do callers_then r fs p.callers)))) is;
    leads = subst (λ most. LeadsOn p' m most) (omega arith) g.leads;
  }

  -- a statement was left, and what waits for its end goes on
  pub leaves_task : (t : Task) (ts : List Task) (f : Flow) (n : Next) → p.current.tasks ≡ t ∷ ts → IsIdle p → Means n (λ w. task_after w t (plain_flow f)) (task_weight t)
      → Leaves r fs p f (moved.On n) (holding p p.current.evaluator ts p.printed)
  unfolding ahead rest_weight weight tasks_weight
  leaves_task t ts f n is idle h = record {
    same = λ left. ap outcome_of (ap (λ run. run then_do rest_then r fs (holding p p.current.evaluator ts p.printed)) (h.same r fs p.current.room (state_of left p))
        ∙ sym (rest_popped r fs p p.current.evaluator ts p.printed t is (plain_flow f) (state_of left p)));
    leads = (idle, rw is (omega (arith, h.light)));
  }

  -- nothing waits for it, and a call ends
  pub leaves_call : (c : Caller) (cs : List Caller) (ts : List Task) (f : Flow) (m : Moved) (p' : Pending) → p.current.tasks ≡ [] → p.callers ≡ c ∷ cs
      → Returns r fs (record { current = record { room = p.current.room; evaluator = p.current.evaluator; tasks = ts }; callers = cs; printed = p.printed }) c f m p' → Leaves r fs p f m p'
  unfolding rest_then tasks_then ◌then_do◌ rest_weight tasks_weight callers_weight
  leaves_call c cs ts f m p' none is h = record {
    same = λ left. h.same left
        ∙ ap (λ callers. outcome_of (callers_then r fs callers (plain_flow f) (state_of left p))) (sym is)
        ∙ ap (λ tasks. outcome_of (tasks_then (world_of r fs p.current) tasks (plain_flow f) (state_of left p) then_do callers_then r fs p.callers)) (sym none);
    leads = subst (λ most. LeadsOn p' m most) (rw (none, is) (omega arith)) h.leads;
  }

  -- nothing waits for it, and the script ends
  pub leaves_script : (cs : List Caller) (ts : List Task) (f : Flow) → p.current.tasks ≡ [] → p.callers ≡ []
      → Leaves r fs p f (moved.At (settled.Over end.Ended)) (record { current = record { room = p.current.room; evaluator = p.current.evaluator; tasks = ts }; callers = cs; printed = p.printed })
  unfolding rest_then tasks_then callers_then ◌then_do◌ settled_outcome outcome_of
  leaves_script cs ts f none no_callers = record {
    same = λ left. rw (none, no_callers) refl;
    leads = tt;
  }

  -- an `include` is passed over
  pub enters_include : (st : Bor Stmt) (ss : Bor (List Stmt)) → is_include (plain_stmt st.now) ≡ true → IsIdle p → Enters r fs p st ss (moved.On (next.Block ss)) p
  unfolding ahead focused statements next_after ◌then_do◌ weight next_weight
  enters_include st ss is idle = record {
    same = λ left. ap (λ run. outcome_of ((run then_do λ f s. next_after f s (statements (world_of r fs p.current) (stmts_of ss.now))) then_do rest_then r fs p)) (sym (include_goes_on (world_of r fs p.current) (plain_stmt st.now) is (state_of left p)));
    leads = (idle, omega arith);
  }

  -- any other statement wants its unit
  pub enters_statement : (st : Bor Stmt) (ss : Bor (List Stmt)) (ts : List Task) → is_include (plain_stmt st.now) ≡ false → IsIdle p → ts ≡ task.Rest ss ∷ p.current.tasks
      → Enters r fs p st ss (moved.At (settled.Wants (wanted.Statement st))) (holding p p.current.evaluator ts p.printed)
  unfolding settled_outcome wanted_then statements task_after
  enters_statement st ss ts is idle at = record {
    same = λ left. let w = world_of r fs p.current in let s = state_of left p in ap outcome_of (
        same_unit left s _ _ (λ t. same_then (statement w (plain_stmt st.now) (record t { left = suc t.left })) _ _ (rest_pushed r fs p p.current.evaluator ts p.printed (task.Rest ss) at))
        ∙ sym (unit_then left s _ _)
        ∙ ap (λ run. run then_do λ f s. (task_after w (task.Rest ss) f s then_do rest_then r fs p)) (sym (takes_unit w (plain_stmt st.now) is left s))
        ∙ sym (assoc (statement w (plain_stmt st.now) s) _ _));
    leads = (idle, is);
  }

  -- no statement is left
  pub moves_no_statement : (ss : Bor (List Stmt)) → ss.now ≡ [] → IsIdle p → Moves r fs p (next.Block ss) (moved.On (next.Left flow.GoesOn)) p
  unfolding ahead focused statements ◌then_do◌ weight next_weight block_weight
  moves_no_statement ss none idle = record {
    same = λ left. rw none refl;
    leads = (idle, rw none (omega arith));
  }

  pub moves_statement : (ss : Bor (List Stmt)) (st : Bor Stmt) (rest : Bor (List Stmt)) (m : Moved) (p' : Pending) → ss.now ≡ st.now ∷ rest.now → Enters r fs p st rest m p' → Moves r fs p (next.Block ss) m p'
  unfolding ahead focused weight next_weight block_weight
  moves_statement ss st rest m p' is h = record {
    same = λ left. h.same left ∙ ap (λ x. outcome_of (statements (world_of r fs p.current) (stmts_of x) (state_of left p) then_do rest_then r fs p)) (sym is);
    leads = subst (λ most. LeadsOn p' m most) (rw is (omega arith)) h.leads;
  }

  pub moves_left : (f : Flow) (m : Moved) (p' : Pending) → Leaves r fs p f m p' → Moves r fs p (next.Left f) m p'
  unfolding ahead focused ◌then_do◌ weight next_weight
  moves_left f m p' h = record { same = h.same; leads = subst (λ most. LeadsOn p' m most) (omega arith) h.leads }

  -- a turn of a loop, or of a walk, wants its unit
  pub moves_turn : (l : Looping) → IsIdle p → Moves r fs p (next.Turn l) (moved.At (settled.Wants (wanted.Turn l))) p
  unfolding ahead focused settled_outcome wanted_then turning turn task_after
  moves_turn l idle = record {
    same = λ left. let s = state_of left p in ap outcome_of (same_unit left s _ _ (λ t. sym (assoc (statements (world_of r fs p.current) (stmts_of l.body.now.items) t) _ _)) ∙ sym (unit_then left s _ _));
    leads = idle;
  }

  pub moves_step : (k : Key) (v : Value) (l : Walking) → IsIdle p → Moves r fs p (next.Step k v l) (moved.At (settled.Wants (wanted.Step k v l))) p
  unfolding ahead focused settled_outcome wanted_then turn task_after
  moves_step k v l idle = record {
    same = λ left. let s = state_of left p in ap outcome_of (same_unit left s _ _ (λ t. sym (assoc (statements (world_of r fs p.current) (stmts_of l.body.now.items) (with_pair (name_of l.key) l.value.now (plain_key k) (plain_of v) t)) _ _)) ∙ sym (unit_then left s _ _));
    leads = idle;
  }

  pub moves_over : (how : End) → Moves r fs p (next.Over how) (moved.At (settled.Over how)) p
  unfolding ahead focused settled_outcome ◌then_do◌ outcome_of
  moves_over how = record { same = λ left. refl; leads = tt }

-- the same of results
pub evaluated_so : (r : PlainRequest) (fs : List PlainFunction) (p : Pending) (e : Bor Expr) (waits : Wait) (stop : Pause) (m' : Evaluator) (x : Result Moved NoMemory) (p' : Pending) → IsIdle p → Pauses r fs (focus.Eval e) p.current.evaluator stop m'
    → IfOk x (λ m. (r : PlainRequest) (fs : List PlainFunction) → Resumes r fs (holding p m' p.current.tasks p.printed) waits stop m p') → IfOk x (λ m. Moves r fs p (next.Eval e waits) m p')
evaluated_so r fs p e waits stop m' (Ok m) p' idle h g = moves_evaluated r fs p e waits stop m' m p' idle h (g r fs)
evaluated_so r fs p e waits stop m' (Err no_memory) p' idle h g = g

pub returned_so : (r : PlainRequest) (fs : List PlainFunction) (p : Pending) (c : Caller) (f : Flow) (v : Value) (stop : Pause) (m' : Evaluator) (x : Result Moved NoMemory) (p' : Pending) → plain_of v ≡ value_returned (plain_flow f)
    → Pauses r fs (focus.Value v) c.call.evaluator stop m'
    → IfOk x (λ m. (r : PlainRequest) (fs : List PlainFunction) → Resumes r fs (record { current = record { room = c.call.room; evaluator = m'; tasks = c.call.tasks }; callers = p.callers; printed = p.printed }) c.wait stop m p') → IfOk x (λ m. Returns r fs p c f m p')
returned_so r fs p c f v stop m' (Ok m) p' is h g = returns_to r fs p c f v stop m' m p' is h (g r fs)
returned_so r fs p c f v stop m' (Err e) p' is h g = g

pub left_to_call : (r : PlainRequest) (fs : List PlainFunction) (p : Pending) (c : Caller) (cs : List Caller) (ts : List Task) (f : Flow) (x : Result Moved NoMemory) (p' : Pending) → p.current.tasks ≡ [] → p.callers ≡ c ∷ cs
    → IfOk x (λ m. Returns r fs (record { current = record { room = p.current.room; evaluator = p.current.evaluator; tasks = ts }; callers = cs; printed = p.printed }) c f m p') → IfOk x (λ m. Leaves r fs p f m p')
left_to_call r fs p c cs ts f (Ok m) p' none is h = leaves_call r fs p c cs ts f m p' none is h
left_to_call r fs p c cs ts f (Err e) p' none is h = h

-- moves one after the other: the outcome is that of the beginning
pub record Comes (r : PlainRequest) (fs : List PlainFunction) (p : Pending) (n : Next) (p' : Pending) (n' : Next) : Type 0 where
  pub same : (left : ℕ) → outcome r fs p' n' left ≡ outcome r fs p n left
  pub ready : IsReady p' n'

-- no expression is being evaluated where another move is next
pub ready_always : (p : Pending) (n : Next) → IsIdle p → IsReady p n
ready_always p (next.Block ss) h = h
ready_always p (next.Left f) h = h
ready_always p (next.Eval e waits) h = h
ready_always p (next.Turn l) h = h
ready_always p (next.Step k v l) h = h
ready_always p (next.Over how) h = tt

pub comes_first : (r : PlainRequest) (fs : List PlainFunction) (p : Pending) (n : Next) → IsReady p n → Comes r fs p n p n
comes_first r fs p n h = record { same = λ left. refl; ready = h }

module _ (r : PlainRequest) (fs : List PlainFunction) (p : Pending) (n : Next) (p' : Pending) (n' : Next) (m : Moved) (p'' : Pending) where
  pub comes_on : (n'' : Next) → Comes r fs p n p' n' → Moves r fs p' n' m p'' → m ≡ moved.On n'' → Comes r fs p n p'' n''
  comes_on n'' h g is =
      let on : Moves r fs p' n' (moved.On n'') p'' = subst (λ x. Moves r fs p' n' x p'') is g in
      record { same = λ left. on.same left ∙ h.same left; ready = ready_always p'' n'' on.leads.0 }

  pub comes_to : (x : Settled) → Comes r fs p n p' n' → Moves r fs p' n' m p'' → m ≡ moved.At x → Settles r fs p n x p''
  comes_to x h g is =
      let on : Moves r fs p' n' (moved.At x) p'' = subst (λ y. Moves r fs p' n' y p'') is g in
      record { same = λ left. on.same left ∙ h.same left; settled = on.leads }

pub comes_less : (r : PlainRequest) (fs : List PlainFunction) (p : Pending) (n : Next) (m : Moved) (p' : Pending) (n' : Next) → Moves r fs p n m p' → m ≡ moved.On n' → weight p' n' < weight p n
comes_less r fs p n m p' n' g is =
    let on : Moves r fs p n (moved.On n') p' = subst (λ x. Moves r fs p n x p') is g in on.leads.1
