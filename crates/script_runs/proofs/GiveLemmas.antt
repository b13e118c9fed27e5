-- A value is given to what waits for it, and how a statement was left to what waits for its end.
use Rattle.std.proofs.Common.{◌≡◌, ℕ, ◌+◌, ◌≤◌, List, [], ◌∷◌, ◌++◌, refl, sym, ◌∙◌, subst, arith, Bor, Bool, true, false}
use Rattle.std.specs.Prelude.{Option, if◌then◌else◌}
use Rattle.std.specs.declared.vec.Vec.{Vec}
use Rattle.std.specs.declared.alloc.Global.{Global}
use Rattle.php_syntax.specs.declared.tree.Expr.{Expr}
use Rattle.php_syntax.specs.declared.tree.Stmt.{Stmt}
use Rattle.php_syntax.specs.Trees.{exprs_of, stmts_of, arms_of}
use Rattle.plain_values.specs.Plain.{Plain, null, flag, int, text, array}
use Rattle.plain_values.specs.Walks.{is_text}
use Rattle.plain_values.specs.declared.fault.Fault.TheVariants.{WrongType}
use Rattle.plain_values.specs.Text.{truth, text_of}
use Rattle.php_values.specs.declared.array.Value.{Value}
use Rattle.php_values.specs.View.{plain_of}
use Rattle.script_meaning.specs.Runs.{State, Run, Over}
use Rattle.script_meaning.specs.Expressions.{Environment}
use Rattle.script_meaning.specs.Statements as meaning
use Rattle.script_meaning.specs.Statements.{echo, statements, arms_in, exit_with, next_after, turn_after}
use Rattle.script_runs.specs.declared.frames.End.{End}
use Rattle.script_runs.specs.declared.frames.End.TheVariants as end
use Rattle.script_runs.specs.declared.frames.Flow.{Flow}
use Rattle.script_runs.specs.declared.frames.Flow.TheVariants as flow
use Rattle.script_runs.specs.declared.frames.Looping.{Looping}
use Rattle.script_runs.specs.declared.frames.Walking.{Walking}
use Rattle.script_runs.specs.declared.frames.Wait.{Wait}
use Rattle.script_runs.specs.declared.frames.Wait.TheVariants as wait
use Rattle.script_runs.specs.declared.frames.Task.{Task}
use Rattle.script_runs.specs.declared.frames.Task.TheVariants as task
use Rattle.script_runs.specs.declared.frames.Next.{Next}
use Rattle.script_runs.specs.declared.frames.Next.TheVariants as next
use Rattle.script_runs.specs.Frames.{scope, focused, wait_after, task_after, values_before, walking, each_value, plain_flow, StaysInLoop, LeavesLoop}
use Rattle.script_runs.specs.Cost.{row_weight, block_weight, arms_weight, wait_weight, task_weight, next_weight}
use Rattle.script_runs.specs.StatementMoves.{Means, Gives, Quits}

true_is_not_false : true ≡ false → ⊥
true_is_not_false e = cc

if_true : {A : Type 0} (c : Bool) (a b : A) → c ≡ true → (if c then a else b) ≡ a
if_true c a b h = rw h refl

if_false : {A : Type 0} (c : Bool) (a b : A) → c ≡ false → (if c then a else b) ≡ b
if_false c a b h = rw h refl

-- the same of what waits, by another equation
pub waits_as : (waits waits' : Wait) (v : Plain) (before : List ℕ) (n : Next) (after : List ℕ) → waits ≡ waits' → Gives waits' v before n after → Gives waits v before n after
waits_as waits waits' v before n after e g = subst (λ x. Gives x v before n after) (sym e) g

-- what is next comes to what waits with its value, and nothing was printed
gives : (waits : Wait) (v : Plain) (out : List ℕ) (n : Next) (act : Environment → State → Run meaning.Flow) (most : ℕ) → Means n act most → ((w : Environment) (s : State) → act w s ≡ wait_after w waits v s) → most ≤ wait_weight waits → Gives waits v out n out
gives waits v out n act most m h l = record {
  same = λ r fs room s. m.same r fs room (record s { printed = out }) ∙ h (scope r fs room) (record s { printed = out });
  light = omega (arith, m.light);
}

module _ (v : Plain) (out : List ℕ) where
  pub give_echo : (rest : Bor (List Expr)) (n : Next) (t after : List ℕ) → Means n (λ w. echo w (exprs_of rest.now)) (row_weight rest.now) → t ≡ text_of v → after ≡ out ++ t → Gives (wait.Echo rest) v out n after
  unfolding wait_after wait_weight
  give_echo rest n t after m e d = record {
    same = λ r fs room s. m.same r fs room (record s { printed = after }) ∙ rw (d, e) refl;
    light = m.light;
  }

  pub give_run : Gives wait.Run v out (next.Left flow.GoesOn) out
  unfolding focused wait_after wait_weight next_weight
  give_run = record { same = λ r fs room s. refl; light = omega arith }

  pub give_arm : (body : Bor (Vec Stmt Global)) (arms : Bor (List (Expr × Vec Stmt Global))) (otherwise : Bor (Vec Stmt Global)) (block : Bor (List Stmt)) → truth v ≡ true → block.now ≡ body.now.items → Gives (wait.Arm body arms otherwise) v out (next.Block block) out
  unfolding focused wait_after wait_weight next_weight
  give_arm body arms otherwise block h is = record { same = λ r fs room s. rw is (sym (if_true (truth v) _ _ h)); light = rw is (omega arith) }

  pub give_arms : (body : Bor (Vec Stmt Global)) (arms : Bor (List (Expr × Vec Stmt Global))) (otherwise : Bor (Vec Stmt Global)) (n : Next) → truth v ≡ false
      → Means n (λ w. arms_in w (arms_of arms.now) (statements w (stmts_of otherwise.now.items))) (arms_weight arms.now otherwise.now.items) → Gives (wait.Arm body arms otherwise) v out n out
  unfolding wait_after wait_weight
  give_arms body arms otherwise n h m = gives _ v out n _ _ m (λ w s. sym (if_false (truth v) _ _ h)) (omega arith)

  pub give_turn : (l : Looping) → truth v ≡ true → Gives (wait.Test l) v out (next.Turn l) out
  unfolding focused wait_after wait_weight next_weight
  give_turn l h = record { same = λ r fs room s. sym (if_true (truth v) _ _ h); light = omega arith }

  pub give_test : (l : Looping) → truth v ≡ false → Gives (wait.Test l) v out (next.Left flow.GoesOn) out
  unfolding focused wait_after wait_weight next_weight
  give_test l h = record { same = λ r fs room s. sym (if_false (truth v) _ _ h); light = omega arith }

  pub give_before : (rest : Bor (List Expr)) (l : Looping) (n : Next) → Means n (λ w. values_before w (exprs_of rest.now) l) (row_weight rest.now) → Gives (wait.Before rest l) v out n out
  unfolding wait_after wait_weight
  give_before rest l n m = gives _ v out n _ _ m (λ w s. refl) (omega arith)

  pub give_each : (key : Option (Bor (List ℕ))) (x : Bor (List ℕ)) (body : Bor (Vec Stmt Global)) (n : Next) → Means n (λ w. each_value w key x body v) 1 → Gives (wait.Each key x body) v out n out
  unfolding wait_after wait_weight
  give_each key x body n m = gives _ v out n _ _ m (λ w s. refl) (omega arith)

  pub give_quit : (how : End) (after : List ℕ) → Quits v out how after → Gives wait.Quit v out (next.Over how) after
  unfolding focused wait_after wait_weight next_weight
  give_quit how after q = record { same = λ r fs room s. q.same s; light = omega arith }

pub give_return : (a : Value) (v : Plain) (out : List ℕ) → plain_of a ≡ v → Gives wait.Return v out (next.Left (flow.Returns a)) out
unfolding focused wait_after wait_weight next_weight
give_return a v out is = record { same = λ r fs room s. rw is refl; light = omega arith }

-- how a statement was left is handed on
pub stays_goes_on : (f : Flow) → f ≡ flow.GoesOn → StaysInLoop (plain_flow f)
unfolding turn_after
stays_goes_on f is = λ s go. rw is refl

pub stays_continues : (f : Flow) → f ≡ flow.Continues → StaysInLoop (plain_flow f)
unfolding turn_after
stays_continues f is = λ s go. rw is refl

pub leaves_breaks : (f : Flow) → f ≡ flow.Breaks → LeavesLoop (plain_flow f) (plain_flow flow.GoesOn)
unfolding turn_after
leaves_breaks f is = λ s go. rw is refl

pub leaves_returns : (f : Flow) (v : Value) → f ≡ flow.Returns v → LeavesLoop (plain_flow f) (plain_flow (flow.Returns v))
unfolding turn_after
leaves_returns f v is = λ s go. rw is refl

pub rest_goes : (ss : Bor (List Stmt)) (f : Flow) → f ≡ flow.GoesOn → Means (next.Block ss) (λ w s. next_after (plain_flow f) s (statements w (stmts_of ss.now))) (task_weight (task.Rest ss))
unfolding focused next_after next_weight task_weight
rest_goes ss f is = record { same = λ r fs room s. rw is refl; light = omega arith }

one_of_block : (ss : List Stmt) → 1 ≤ block_weight ss
unfolding block_weight
one_of_block [] = omega arith
one_of_block (s ∷ ss) = omega arith

pub one_of_row : (es : List Expr) → 1 ≤ row_weight es
unfolding row_weight
one_of_row [] = omega arith
one_of_row (e ∷ es) = omega arith

pub rest_left : (ss : Bor (List Stmt)) (f : Flow) → (f ≡ flow.GoesOn → ⊥) → Means (next.Left f) (λ w s. next_after (plain_flow f) s (statements w (stmts_of ss.now))) (task_weight (task.Rest ss))
unfolding focused next_after next_weight task_weight
rest_left ss flow.GoesOn other = absurd (other refl)
rest_left ss flow.Breaks other = record { same = λ r fs room s. refl; light = one_of_block ss.now }
rest_left ss flow.Continues other = record { same = λ r fs room s. refl; light = one_of_block ss.now }
rest_left ss (flow.Returns v) other = record { same = λ r fs room s. refl; light = one_of_block ss.now }

pub task_as : (t t' : Task) (f : Flow) (n : Next) → t ≡ t' → Means n (λ w. task_after w t' (plain_flow f)) (task_weight t') → Means n (λ w. task_after w t (plain_flow f)) (task_weight t)
task_as t t' f n is m = subst (λ x. Means n (λ w. task_after w x (plain_flow f)) (task_weight x)) (sym is) m

pub rest_on : (t : Task) (ss : Bor (List Stmt)) (f : Flow) (n : Next) → t ≡ task.Rest ss → Means n (λ w s. next_after (plain_flow f) s (statements w (stmts_of ss.now))) (task_weight (task.Rest ss)) → Means n (λ w. task_after w t (plain_flow f)) (task_weight t)
unfolding task_after
rest_on t ss f n is m = task_as t (task.Rest ss) f n is m

pub loop_on : (t : Task) (l : Looping) (f : Flow) (n : Next) → t ≡ task.Loop l → StaysInLoop (plain_flow f) → Means n (λ w. values_before w (exprs_of l.behind.now) l) (row_weight l.behind.now) → Means n (λ w. task_after w t (plain_flow f)) (task_weight t)
unfolding task_after task_weight
loop_on t l f n is h m = record { same = λ r fs room s. rw is (m.same r fs room s ∙ sym (h s _)); light = rw is m.light }

pub loop_left : (t : Task) (l : Looping) (f left : Flow) → t ≡ task.Loop l → LeavesLoop (plain_flow f) (plain_flow left) → Means (next.Left left) (λ w. task_after w t (plain_flow f)) (task_weight t)
unfolding focused task_after task_weight next_weight
loop_left t l f left is h = record { same = λ r fs room s. rw is (sym (h s _)); light = rw is (one_of_row l.behind.now) }

pub walk_on : (t : Task) (l : Walking) (f : Flow) (n : Next) → t ≡ task.Walk l → StaysInLoop (plain_flow f) → Means n (λ w. walking w l) 1 → Means n (λ w. task_after w t (plain_flow f)) (task_weight t)
unfolding task_after task_weight
walk_on t l f n is h m = record { same = λ r fs room s. rw is (m.same r fs room s ∙ sym (h s _)); light = rw is m.light }

pub walk_left : (t : Task) (l : Walking) (f left : Flow) → t ≡ task.Walk l → LeavesLoop (plain_flow f) (plain_flow left) → Means (next.Left left) (λ w. task_after w t (plain_flow f)) (task_weight t)
unfolding focused task_after task_weight next_weight
walk_left t l f left is h = record { same = λ r fs room s. rw is (sym (h s _)); light = rw is (omega arith) }

-- `exit` with a value
pub quits_text : (v : Plain) (t before after : List ℕ) → v ≡ text t → after ≡ before ++ t → Quits v before end.Ended after
unfolding exit_with
quits_text v t before after is e = record { same = λ s. rw (is, e) refl }

pub quits_other : (v : Plain) (out : List ℕ) → is_text v ≡ false → Quits v out (end.Fault WrongType) out
unfolding exit_with
quits_other null out other = record { same = λ s. refl }
quits_other (flag b) out other = record { same = λ s. refl }
quits_other (int z) out other = record { same = λ s. refl }
quits_other (text t) out other = absurd (true_is_not_false other)
quits_other (array ps) out other = record { same = λ s. refl }
