-- Unit by unit to the end of a run.
use Rattle.std.proofs.Common.{◌≡◌, ℕ, suc, List, [], refl, sym, ap, ◌∙◌, subst, Bor}
use Rattle.php_syntax.specs.declared.tree.Stmt.{Stmt}
use Rattle.php_syntax.specs.declared.tree.FunctionDef.{FunctionDef}
use Rattle.php_syntax.specs.Trees.{PlainFunction, stmts_of, functions_of_list}
use Rattle.script_meaning.specs.Requests.{PlainRequest}
use Rattle.script_meaning.specs.Runs.{Run, Going, Over, ◌then_do◌, unit_at}
use Rattle.script_meaning.specs.Statements.{statements}
use Rattle.script_meaning.specs.Meaning.{Outcome, outcome_of, meaning}
use Rattle.script_runs.specs.declared.frames.End.{End}
use Rattle.script_runs.specs.declared.frames.End.TheVariants as end
use Rattle.script_runs.specs.declared.frames.Next.{Next}
use Rattle.script_runs.specs.declared.frames.Next.TheVariants as next
use Rattle.script_runs.specs.Frames.{scope, focused, tasks_then, plain_end}
use Rattle.script_runs.specs.declared.calls.Pending.{Pending}
use Rattle.script_runs.specs.declared.wants.Wanted.{Wanted}
use Rattle.script_runs.specs.declared.wants.Settled.{Settled}
use Rattle.script_runs.specs.declared.wants.Settled.TheVariants as settled
use Rattle.script_runs.specs.Rest.{ahead, callers_then, rest_then, outcome, settled_outcome}
use Rattle.script_runs.specs.Moves.{IsReady, MayTake, Settles, Pays}

-- so far the outcome is that of the beginning
pub record IsOnTheWay (r : PlainRequest) (fs : List PlainFunction) (p : Pending) (n : Next) (steps : ℕ) (p' : Pending) (n' : Next) (left : ℕ) : Type 0 where
  pub same : outcome r fs p' n' left ≡ outcome r fs p n steps
  pub ready : IsReady p' n'

pub way_begins : (r : PlainRequest) (fs : List PlainFunction) (p : Pending) (n : Next) (steps : ℕ) → IsReady p n → IsOnTheWay r fs p n steps p n steps
way_begins r fs p n steps h = record { same = refl; ready = h }

module _ (r : PlainRequest) (fs : List PlainFunction) (p : Pending) (n : Next) (steps : ℕ) (p' : Pending) (n' : Next) (left : ℕ) (x : Settled) (p'' : Pending) where
  settled_so : (y : Settled) → IsOnTheWay r fs p n steps p' n' left → Settles r fs p' n' x p'' → x ≡ y → settled_outcome r fs p'' y left ≡ outcome r fs p n steps
  settled_so y way h is = ap (λ z. settled_outcome r fs p'' z left) (sym is) ∙ h.same left ∙ way.same

  pub way_ends : (how : End) → IsOnTheWay r fs p n steps p' n' left → Settles r fs p' n' x p'' → x ≡ settled.Over how → record { printed = p''.printed; end = plain_end how } ≡ outcome r fs p n steps
  unfolding settled_outcome
  way_ends how way h is = settled_so (settled.Over how) way h is

  -- no unit is left
  pub way_spent : (w : Wanted) → IsOnTheWay r fs p n steps p' n' left → Settles r fs p' n' x p'' → x ≡ settled.Wants w → left ≡ 0 → record { printed = p''.printed; end = plain_end end.Spent } ≡ outcome r fs p n steps
  unfolding settled_outcome unit_at outcome_of
  way_spent w way h is none = ap (λ k. settled_outcome r fs p'' (settled.Wants w) k) (sym none) ∙ settled_so (settled.Wants w) way h is

  pub may_take : (w : Wanted) → Settles r fs p' n' x p'' → x ≡ settled.Wants w → MayTake p'' w
  may_take w h is =
      let at : Settles r fs p' n' (settled.Wants w) p'' = subst (λ y. Settles r fs p' n' y p'') is h in at.settled

  -- a unit was taken
  pub way_goes_on : (w : Wanted) (left' : ℕ) (n'' : Next) (p''' : Pending) → IsOnTheWay r fs p n steps p' n' left → Settles r fs p' n' x p'' → x ≡ settled.Wants w → left ≡ suc left' → Pays r fs p'' w n'' p''' → IsOnTheWay r fs p n steps p''' n'' left'
  unfolding settled_outcome unit_at
  way_goes_on w left' n'' p''' way h is some pays = record {
    same = pays.same left' ∙ ap (λ k. settled_outcome r fs p'' (settled.Wants w) k) (sym some) ∙ settled_so (settled.Wants w) way h is;
    ready = pays.ready;
  }

then_going : {A : Type 0} (run : Run A) → (run then_do λ x s. Going x s) ≡ run
unfolding ◌then_do◌
then_going (Going x s) = refl
then_going (Over how printed) = refl

-- a run that has not begun comes to what the program means
pub begins_so : (r : PlainRequest) (fs : List PlainFunction) (main : List Stmt) (block : Bor (List Stmt)) (p : Pending) (steps : ℕ) → block.now ≡ main
    → p ≡ record { current = record { room = 256; evaluator = record { frames = []; variables = [] }; tasks = [] }; callers = []; printed = [] }
    → outcome r fs p (next.Block block) steps ≡ meaning (record { main_of = stmts_of main; functions_of = fs }) r steps
unfolding ahead focused rest_then tasks_then callers_then ◌then_do◌ meaning
begins_so r fs main block p steps is new = rw (new, is) (ap outcome_of (then_going (statements (scope r fs 256) (stmts_of main) (record { left = steps; variables = []; printed = [] }))))

-- the same of the functions by a reference to them
pub runs_so : (r : PlainRequest) (functions all : List FunctionDef) (main : List Stmt) (block : Bor (List Stmt)) (p : Pending) (steps : ℕ) (x : Outcome) → all ≡ functions → block.now ≡ main
    → p ≡ record { current = record { room = 256; evaluator = record { frames = []; variables = [] }; tasks = [] }; callers = []; printed = [] }
    → x ≡ outcome r (functions_of_list all) p (next.Block block) steps → x ≡ meaning (record { main_of = stmts_of main; functions_of = functions_of_list functions }) r steps
runs_so r functions all main block p steps x same is new h =
    h ∙ begins_so r (functions_of_list all) main block p steps is new ∙ ap (λ fs. meaning (record { main_of = stmts_of main; functions_of = functions_of_list fs }) r steps) same
