-- Units, statements, evaluations and tasks, as parts of the rest of a run.
use Rattle.std.proofs.Common.{◌≡◌, ℕ, zero, suc, List, ◌∷◌, refl, sym, ap, ◌∙◌, subst, true, false}
use Rattle.php_syntax.specs.Trees.{PlainFunction, PlainStmt, inline_stmt, echo_stmt, run_stmt, if_stmt, while_stmt, do_while_stmt, for_stmt, each_stmt, break_stmt, continue_stmt, return_stmt, include_stmt, quit_stmt}
use Rattle.plain_values.specs.Plain.{Plain}
use Rattle.script_meaning.specs.Requests.{PlainRequest}
use Rattle.script_meaning.specs.Runs.{State, Run, Going, ◌then_do◌, unit_at}
use Rattle.script_meaning.specs.Expressions.{Environment}
use Rattle.script_meaning.specs.Statements.{Flow, goes_on, statement}
use Rattle.script_meaning.specs.Meaning.{call_within}
use Rattle.expr_evaluator.proofs.Runs.{assoc}
use Rattle.expr_evaluator.specs.Frames as evaluation
use Rattle.expr_evaluator.specs.Frames.{world, values_then, paused}
use Rattle.expr_evaluator.specs.Moves.{Pauses, seeing}
use Rattle.expr_evaluator.specs.declared.frame.Focus.{Focus}
use Rattle.expr_evaluator.specs.declared.frame.Pause.{Pause}
use Rattle.expr_evaluator.specs.declared.evaluator.Evaluator.{Evaluator}
use Rattle.script_runs.specs.declared.frames.Task.{Task}
use Rattle.script_runs.specs.Frames.{scope, task_after, tasks_then, is_include}
use Rattle.script_runs.specs.declared.calls.Pending.{Pending}
use Rattle.script_runs.specs.Rest.{enter_at, rest_then, world_of}

-- a run with another evaluation, other tasks, and other bytes printed
abbrev pub holding : Pending → Evaluator → List Task → List ℕ → Pending
holding p e ts out = record { current = record { room = p.current.room; evaluator = e; tasks = ts }; callers = p.callers; printed = out }

pub unit_then : {A B : Type 0} (n : ℕ) (s : State) (go : State → Run A) (k : A → State → Run B) → (unit_at n s go then_do k) ≡ unit_at n s (λ t. go t then_do k)
unfolding unit_at ◌then_do◌
unit_then zero s go k = refl
unit_then (suc n) s go k = refl

pub same_unit : {A : Type 0} (n : ℕ) (s : State) (go go' : State → Run A) → ((t : State) → go t ≡ go' t) → unit_at n s go ≡ unit_at n s go'
unfolding unit_at
same_unit zero s go go' h = refl
same_unit (suc n) s go go' h = h (record s { left = n })

true_is_not_false : true ≡ false → ⊥
true_is_not_false e = cc

-- without a unit no statement begins
no_unit : (w : Environment) (st : PlainStmt) → is_include st ≡ false → (s : State) (go : State → Run Flow) → statement w st (record s { left = zero }) ≡ unit_at zero (record s { left = zero }) go
unfolding statement unit_at
no_unit w (inline_stmt bytes) h s go = refl
no_unit w (echo_stmt es) h s go = refl
no_unit w (run_stmt e) h s go = refl
no_unit w (if_stmt arms otherwise) h s go = refl
no_unit w (while_stmt e body) h s go = refl
no_unit w (do_while_stmt body e) h s go = refl
no_unit w (for_stmt begin e behind body) h s go = refl
no_unit w (each_stmt e key x body) h s go = refl
no_unit w break_stmt h s go = refl
no_unit w continue_stmt h s go = refl
no_unit w (return_stmt e) h s go = refl
no_unit w (include_stmt path) h s go = absurd (true_is_not_false h)
no_unit w (quit_stmt e) h s go = refl

-- a statement takes its unit first
pub takes_unit : (w : Environment) (st : PlainStmt) → is_include st ≡ false → (n : ℕ) (s : State)
    → statement w st (record s { left = n }) ≡ unit_at n (record s { left = n }) (λ t. statement w st (record t { left = suc t.left }))
unfolding unit_at
takes_unit w st h zero s = no_unit w st h s (λ t. statement w st (record t { left = suc t.left }))
takes_unit w st h (suc n) s = refl

-- an `include`, of which no program has one, does nothing
pub include_goes_on : (w : Environment) (st : PlainStmt) → is_include st ≡ true → (s : State) → statement w st s ≡ Going goes_on s
unfolding statement
include_goes_on w (inline_stmt bytes) h s = absurd (true_is_not_false (sym h))
include_goes_on w (echo_stmt es) h s = absurd (true_is_not_false (sym h))
include_goes_on w (run_stmt e) h s = absurd (true_is_not_false (sym h))
include_goes_on w (if_stmt arms otherwise) h s = absurd (true_is_not_false (sym h))
include_goes_on w (while_stmt e body) h s = absurd (true_is_not_false (sym h))
include_goes_on w (do_while_stmt body e) h s = absurd (true_is_not_false (sym h))
include_goes_on w (for_stmt begin e behind body) h s = absurd (true_is_not_false (sym h))
include_goes_on w (each_stmt e key x body) h s = absurd (true_is_not_false (sym h))
include_goes_on w break_stmt h s = absurd (true_is_not_false (sym h))
include_goes_on w continue_stmt h s = absurd (true_is_not_false (sym h))
include_goes_on w (return_stmt e) h s = absurd (true_is_not_false (sym h))
include_goes_on w (include_stmt path) h s = refl
include_goes_on w (quit_stmt e) h s = absurd (true_is_not_false (sym h))

module _ (r : PlainRequest) (fs : List PlainFunction) where
  -- calls are what the functions of the script do, where so many more may be opened
  pub world_is_scope : (room : ℕ) → world r fs (enter_at r fs room) ≡ scope r fs room
  unfolding call_within enter_at
  world_is_scope zero = refl
  world_is_scope (suc room) = refl

  -- where an evaluation stopped, and what waits for its value, is where it began, and what waits
  pub stopped : (room : ℕ) (f : Focus) (m m' : Evaluator) (stop : Pause) (k : Plain → State → Run Flow) → Pauses r fs f m stop m' → (s : State)
      → (paused (enter_at r fs room) stop (seeing s m'.variables) then_do λ v t. (values_then (scope r fs room) m'.frames v t then_do k))
      ≡ (evaluation.focused (enter_at r fs room) (scope r fs room) f (seeing s m.variables) then_do λ v t. (values_then (scope r fs room) m.frames v t then_do k))
  stopped room f m m' stop k h s =
      sym (assoc (paused (enter_at r fs room) stop (seeing s m'.variables)) (values_then (scope r fs room) m'.frames) k)
      ∙ ap (λ run. run then_do k) (subst (λ w. (paused (enter_at r fs room) stop (seeing s m'.variables) then_do values_then w m'.frames) ≡ (evaluation.focused (enter_at r fs room) w f (seeing s m.variables) then_do values_then w m.frames)) (world_is_scope room) (h.same (enter_at r fs room) s))
      ∙ assoc (evaluation.focused (enter_at r fs room) (scope r fs room) f (seeing s m.variables)) (values_then (scope r fs room) m.frames) k

  -- a task before the others is first
  pub rest_pushed : (p : Pending) (e : Evaluator) (ts : List Task) (out : List ℕ) (t : Task) → ts ≡ t ∷ p.current.tasks → (f : Flow) (s : State)
      → rest_then r fs (holding p e ts out) f s ≡ (task_after (world_of r fs p.current) t f s then_do rest_then r fs p)
  unfolding rest_then tasks_then
  rest_pushed p e ts out t is f s = rw is (assoc (task_after (world_of r fs p.current) t f s) _ _)

  -- a task that was taken off was first
  pub rest_popped : (p : Pending) (e : Evaluator) (ts : List Task) (out : List ℕ) (t : Task) → p.current.tasks ≡ t ∷ ts → (f : Flow) (s : State)
      → rest_then r fs p f s ≡ (task_after (world_of r fs p.current) t f s then_do rest_then r fs (holding p e ts out))
  unfolding rest_then tasks_then
  rest_popped p e ts out t is f s = rw is (assoc (task_after (world_of r fs p.current) t f s) _ _)
