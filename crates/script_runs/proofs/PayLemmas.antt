-- The moves that take a unit.
use Rattle.std.proofs.Common.{◌≡◌, ℕ, suc, List, [], ◌∷◌, refl, sym, ap, ◌∙◌, subst, Bor}
use Rattle.std.specs.Prelude.{Some, None}
use Rattle.std.specs.declared.vec.Vec.{Vec}
use Rattle.std.specs.declared.alloc.Global.{Global}
use Rattle.php_syntax.specs.declared.tree.Stmt.{Stmt}
use Rattle.php_syntax.specs.declared.tree.FunctionDef.{FunctionDef}
use Rattle.php_syntax.specs.Trees.{PlainFunction, plain_function, params_of_list, stmts_of}
use Rattle.plain_values.specs.Plain.{Plain, PlainKey}
use Rattle.plain_values.specs.Walks.{value_of_key}
use Rattle.php_values.specs.declared.array.Value.{Value}
use Rattle.php_values.specs.declared.key.Key.{Key}
use Rattle.php_values.specs.View.{plain_of, plain_key, plain_list}
use Rattle.script_meaning.specs.Requests.{PlainRequest}
use Rattle.script_meaning.specs.Runs.{State, Going, ◌then_do◌, Variables, set_in}
use Rattle.script_meaning.specs.Programs.{arguments_of}
use Rattle.script_meaning.specs.Statements.{Flow, statements, with_pair}
use Rattle.script_meaning.specs.Meaning.{outcome_of, run_body, value_returned}
use Rattle.expr_evaluator.proofs.Runs.{assoc, same_then}
use Rattle.expr_evaluator.specs.Frames.{values_then}
use Rattle.expr_evaluator.specs.Moves.{seeing}
use Rattle.script_runs.specs.declared.frames.End.TheVariants as end
use Rattle.script_runs.specs.declared.frames.Looping.{Looping}
use Rattle.script_runs.specs.declared.frames.Walking.{Walking}
use Rattle.script_runs.specs.declared.frames.Wait.{Wait}
use Rattle.script_runs.specs.declared.frames.Task.{Task}
use Rattle.script_runs.specs.declared.frames.Task.TheVariants as task
use Rattle.script_runs.specs.declared.frames.Next.{Next}
use Rattle.script_runs.specs.declared.frames.Next.TheVariants as next
use Rattle.script_runs.specs.Frames.{scope, focused, tasks_then, name_of}
use Rattle.script_runs.specs.StatementMoves.{Begins}
use Rattle.script_runs.specs.declared.calls.Call.{Call}
use Rattle.script_runs.specs.declared.calls.Caller.{Caller}
use Rattle.script_runs.specs.declared.calls.Pending.{Pending}
use Rattle.script_runs.specs.declared.wants.Wanted.{Wanted}
use Rattle.script_runs.specs.declared.wants.Wanted.TheVariants as wanted
use Rattle.script_runs.specs.Rest.{enter_at, world_of, callers_then, rest_then, wait_then, state_of, ahead, wanted_then}
use Rattle.script_runs.specs.Moves.{IsIdle, MayTake, Pays, SetsPair}
use Rattle.script_runs.proofs.UnitLemmas.{holding, rest_pushed}
use Rattle.script_runs.proofs.SettleLemmas.{ready_always}

-- the variables of a step
pub sets_value : (l : Walking) (k : PlainKey) (v : Plain) (before after : Variables) → l.key ≡ None → after ≡ set_in before l.value.now v → SetsPair l k v before after
unfolding with_pair
sets_value l k v before after none is s = rw (none, is) refl

pub sets_both : (l : Walking) (x : Bor (List ℕ)) (k : PlainKey) (v : Plain) (before between after : Variables) → l.key ≡ Some x → between ≡ set_in before x.now (value_of_key k) → after ≡ set_in between l.value.now v → SetsPair l k v before after
unfolding with_pair
sets_both l x k v before between after some first is s = rw (some, is, first) refl

-- the same of what is wanted, by another equation
pub pays_as : (r : PlainRequest) (fs : List PlainFunction) (p : Pending) (w w' : Wanted) (n : Next) (p' : Pending) → w ≡ w' → Pays r fs p w' n p' → Pays r fs p w n p'
pays_as r fs p w w' n p' e h = subst (λ x. Pays r fs p x n p') (sym e) h

pub takes_as : (p : Pending) (w w' : Wanted) → w ≡ w' → MayTake p w → MayTake p w'
takes_as p w w' e h = subst (λ x. MayTake p x) e h

module _ (r : PlainRequest) (fs : List PlainFunction) (p : Pending) where
  -- a statement begins
  pub pays_statement : (st : Bor Stmt) (n : Next) (after : List ℕ) → MayTake p (wanted.Statement st) → Begins st.now p.printed n after → Pays r fs p (wanted.Statement st) n (holding p p.current.evaluator p.current.tasks after)
  unfolding ahead wanted_then rest_then
  pays_statement st n after may h = record {
    same = λ left. ap (λ run. outcome_of (run then_do rest_then r fs p)) (h.same may.1 r fs p.current.room (state_of left p));
    ready = ready_always (holding p p.current.evaluator p.current.tasks after) n may.0;
  }

  -- a turn of a loop begins
  pub pays_turn : (l : Looping) (body : Bor (List Stmt)) (ts : List Task) → IsIdle p → body.now ≡ l.body.now.items → ts ≡ task.Loop l ∷ p.current.tasks
      → Pays r fs p (wanted.Turn l) (next.Block body) (holding p p.current.evaluator ts p.printed)
  unfolding ahead focused wanted_then
  pays_turn l body ts idle is at = record {
    same = λ left. ap outcome_of (ap (λ b. statements (world_of r fs p.current) (stmts_of b) (state_of left p) then_do rest_then r fs (holding p p.current.evaluator ts p.printed)) is
        ∙ same_then (statements (world_of r fs p.current) (stmts_of l.body.now.items) (state_of left p)) _ _ (rest_pushed r fs p p.current.evaluator ts p.printed (task.Loop l) at));
    ready = idle;
  }

  -- a turn of a walk begins, with its variables
  pub pays_step : (k : Key) (v : Value) (l : Walking) (body : Bor (List Stmt)) (vs : Variables) (ts : List Task) → IsIdle p → SetsPair l (plain_key k) (plain_of v) p.current.evaluator.variables vs
      → body.now ≡ l.body.now.items → ts ≡ task.Walk l ∷ p.current.tasks
      → Pays r fs p (wanted.Step k v l) (next.Block body) (holding p (record { frames = p.current.evaluator.frames; variables = vs }) ts p.printed)
  unfolding ahead focused wanted_then
  pays_step k v l body vs ts idle sets is at = record {
    same = λ left. let w = world_of r fs p.current in ap outcome_of (ap (λ b. statements w (stmts_of b) (seeing (state_of left p) vs) then_do rest_then r fs (holding p (record { frames = p.current.evaluator.frames; variables = vs }) ts p.printed)) is
        ∙ ap (λ s. statements w (stmts_of l.body.now.items) s then_do rest_then r fs (holding p (record { frames = p.current.evaluator.frames; variables = vs }) ts p.printed)) (sets (state_of left p))
        ∙ same_then (statements w (stmts_of l.body.now.items) (with_pair (name_of l.key) l.value.now (plain_key k) (plain_of v) (state_of left p))) _ _ (rest_pushed r fs p (record { frames = p.current.evaluator.frames; variables = vs }) ts p.printed (task.Walk l) at));
    ready = idle;
  }

  -- a call is one too many
  pub pays_deep : (f : Bor FunctionDef) (args : Vec Value Global) (waits : Wait) → p.current.room ≡ 0 → Pays r fs p (wanted.Call f args waits) (next.Over end.Deep) p
  unfolding ahead focused wanted_then enter_at ◌then_do◌ outcome_of
  pays_deep f args waits none = record { same = λ left. rw none refl; ready = tt }

  -- what goes on behind the body of a call is what its caller makes of it
  behind_body : (waits : Wait) (f : Flow) (s : State) → callers_then r fs (record { call = p.current; wait = waits } ∷ p.callers) f s
      ≡ (values_then (world_of r fs p.current) p.current.evaluator.frames (value_returned f) (seeing s p.current.evaluator.variables) then_do wait_then r fs p waits)
  unfolding callers_then wait_then rest_then
  behind_body waits f s = refl

  -- a call begins
  pub pays_call : (f : Bor FunctionDef) (args : Vec Value Global) (waits : Wait) (room : ℕ) (body : Bor (List Stmt)) (vs : Variables) (cs : List Caller) → p.current.room ≡ suc room → body.now ≡ f.now.body.items
      → vs ≡ arguments_of (params_of_list f.now.params.items) (plain_list args.items) → cs ≡ record { call = p.current; wait = waits } ∷ p.callers
      → Pays r fs p (wanted.Call f args waits) (next.Block body) (record { current = record { room = room; evaluator = record { frames = []; variables = vs }; tasks = [] }; callers = cs; printed = p.printed })
  unfolding ahead focused wanted_then rest_then tasks_then enter_at run_body ◌then_do◌
  pays_call f args waits room body vs cs some is bound at = record {
    same = λ left. ap outcome_of (
        ap (λ b. statements (scope r fs room) (stmts_of b) (record { left = left; variables = vs; printed = p.printed }) then_do λ g s. callers_then r fs cs g s) is
        ∙ ap (λ xs. statements (scope r fs room) (stmts_of f.now.body.items) (record { left = left; variables = xs; printed = p.printed }) then_do λ g s. callers_then r fs cs g s) bound
        ∙ ap (λ callers. statements (scope r fs room) (stmts_of f.now.body.items) (record { left = left; variables = arguments_of (params_of_list f.now.params.items) (plain_list args.items); printed = p.printed }) then_do λ g s. callers_then r fs callers g s) at
        ∙ same_then (statements (scope r fs room) (stmts_of f.now.body.items) (record { left = left; variables = arguments_of (params_of_list f.now.params.items) (plain_list args.items); printed = p.printed })) _ _ (behind_body waits)
        ∙ sym (assoc (statements (scope r fs room) (stmts_of f.now.body.items) (record { left = left; variables = arguments_of (params_of_list f.now.params.items) (plain_list args.items); printed = p.printed })) (λ g s. Going (value_returned g) (seeing s p.current.evaluator.variables)) (λ v s. (values_then (world_of r fs p.current) p.current.evaluator.frames v s then_do wait_then r fs p waits)))
        ∙ ap (λ n. enter_at r fs n (plain_function f.now) (plain_list args.items) (state_of left p) then_do λ v s. (values_then (world_of r fs p.current) p.current.evaluator.frames v s then_do wait_then r fs p waits)) (sym some));
    ready = refl;
  }

  -- the same of values that are equal to these
  pub opens_call : (f : Bor FunctionDef) (args : Vec Value Global) (waits : Wait) (room : ℕ) (body : Bor (List Stmt)) (vs : Variables) (cs : List Caller) (opened kept : Call) → opened ≡ record { room = room; evaluator = record { frames = []; variables = vs }; tasks = [] } → kept ≡ p.current
      → p.current.room ≡ suc room → body.now ≡ f.now.body.items → vs ≡ arguments_of (params_of_list f.now.params.items) (plain_list args.items) → cs ≡ record { call = kept; wait = waits } ∷ p.callers
      → Pays r fs p (wanted.Call f args waits) (next.Block body) (record { current = opened; callers = cs; printed = p.printed })
  opens_call f args waits room body vs cs opened kept o k some is bound at =
      subst (λ (c : Call). Pays r fs p (wanted.Call f args waits) (next.Block body) (record { current = c; callers = cs; printed = p.printed })) (sym o)
      (pays_call f args waits room body vs cs some is bound (at ∙ ap (λ (c : Call). record { call = c; wait = waits } ∷ p.callers) k))
