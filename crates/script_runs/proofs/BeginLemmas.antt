-- Beginning a statement, form by form.
use Rattle.std.proofs.Common.{◌≡◌, ℕ, suc, ◌+◌, List, ◌++◌, refl, sym, ap, ◌∙◌, arith, Bor, true, false}
use Rattle.std.specs.Prelude.{Option, Some, None}
use Rattle.std.specs.declared.vec.Vec.{Vec}
use Rattle.std.specs.declared.alloc.Global.{Global}
use Rattle.php_syntax.specs.declared.tree.Expr.{Expr}
use Rattle.php_syntax.specs.declared.tree.Stmt.{Stmt}
use Rattle.php_syntax.specs.Trees.{MaybeExpr, PlainStmt, PlainFunction, inline_stmt, echo_stmt, run_stmt, if_stmt, while_stmt, do_while_stmt, for_stmt, each_stmt, break_stmt, continue_stmt, return_stmt, include_stmt, quit_stmt, plain_stmt, plain_expr, exprs_of, stmts_of, arms_of, maybe_of}
use Rattle.script_meaning.specs.Requests.{PlainRequest}
use Rattle.script_meaning.specs.Runs.{State, Run, ◌then_do◌, unit_at}
use Rattle.script_meaning.specs.Expressions.{value, values, maybe_value}
use Rattle.script_meaning.specs.Statements.{statement, statements, echo, for_condition, nothing, returned, exit_with, arms_in}
use Rattle.expr_evaluator.specs.Frames.{maybe_plain}
use Rattle.expr_evaluator.proofs.Runs.{assoc}
use Rattle.php_values.specs.declared.array.Value.TheVariants as variant
use Rattle.script_runs.specs.declared.frames.End.TheVariants as end
use Rattle.script_runs.specs.declared.frames.Flow.TheVariants as flow
use Rattle.script_runs.specs.declared.frames.Looping.{Looping}
use Rattle.script_runs.specs.declared.frames.Wait.TheVariants as wait
use Rattle.script_runs.specs.declared.frames.Next.{Next}
use Rattle.script_runs.specs.declared.frames.Next.TheVariants as next
use Rattle.script_runs.specs.Frames.{scope, focused, wait_after, looping, values_before, turning, each_value, returning, quitting, is_include, name_of, IsWhile}
use Rattle.script_runs.specs.Cost.{wait_weight, next_weight}
use Rattle.script_runs.specs.StatementMoves.{Means, Begins}

-- `return` and `exit`
pub return_none : (e : Option Expr) → e ≡ None → Means (next.Left (flow.Returns variant.Null)) (λ w. returning w (maybe_of e)) 2
unfolding focused returning maybe_value returned ◌then_do◌ next_weight
return_none e none = record { same = λ r fs room s. rw none refl; light = omega arith }

pub return_some : (e : Option Expr) (v : Bor Expr) → e ≡ Some v.now → Means (next.Eval v wait.Return) (λ w. returning w (maybe_of e)) 2
unfolding focused wait_after returning maybe_value returned ◌then_do◌ next_weight wait_weight
return_some e v is = record { same = λ r fs room s. rw is (sym (assoc (value (scope r fs room) (plain_expr v.now) s) _ _)); light = omega arith }

pub quit_none : (e : Option Expr) → e ≡ None → Means (next.Over end.Ended) (λ w. quitting w (maybe_of e)) 2
unfolding focused quitting maybe_value exit_with ◌then_do◌ next_weight
quit_none e none = record { same = λ r fs room s. rw none refl; light = omega arith }

pub quit_some : (e : Option Expr) (v : Bor Expr) → e ≡ Some v.now → Means (next.Eval v wait.Quit) (λ w. quitting w (maybe_of e)) 2
unfolding focused wait_after quitting maybe_value exit_with ◌then_do◌ next_weight wait_weight
quit_some e v is = record { same = λ r fs room s. rw is (sym (assoc (value (scope r fs room) (plain_expr v.now) s) _ _)); light = omega arith }

true_is_not_false : true ≡ false → ⊥
true_is_not_false e = cc

module _ (st : Stmt) (n : Next) (out : List ℕ) where
  -- what is next comes to the statement, and nothing was printed
  begins : (p : PlainStmt) → plain_stmt st ≡ p → ((r : PlainRequest) (fs : List PlainFunction) (room : ℕ) (s : State) → focused (scope r fs room) n s ≡ statement (scope r fs room) p (record s { left = suc s.left })) → Begins st out n out
  begins p is h = record { same = λ other r fs room s. h r fs room (record s { printed = out }) ∙ ap (λ q. statement (scope r fs room) q (record s { left = suc s.left; printed = out })) (sym is) }

  pub begin_echo : (es xs : List Expr) (most : ℕ) → plain_stmt st ≡ echo_stmt (exprs_of xs) → es ≡ xs → Means n (λ w. echo w (exprs_of es)) most → Begins st out n out
  unfolding statement unit_at
  begin_echo es xs most is e m = begins _ is (λ r fs room s. m.same r fs room s ∙ ap (λ y. echo (scope r fs room) (exprs_of y) s) e)

  pub begin_if : (arms bs : List (Expr × Vec Stmt Global)) (otherwise : List Stmt) (most : ℕ) → plain_stmt st ≡ if_stmt (arms_of bs) (stmts_of otherwise) → arms ≡ bs → Means n (λ w. arms_in w (arms_of arms) (statements w (stmts_of otherwise))) most → Begins st out n out
  unfolding statement unit_at
  begin_if arms bs otherwise most is e m = begins _ is (λ r fs room s. m.same r fs room s ∙ ap (λ y. arms_in (scope r fs room) (arms_of y) (statements (scope r fs room) (stmts_of otherwise)) s) e)

  pub begin_while : (e : Bor Expr) (body : Bor (Vec Stmt Global)) (l : Looping) (most : ℕ) → plain_stmt st ≡ while_stmt (plain_expr e.now) (stmts_of body.now.items) → IsWhile e body l → Means n (λ w. looping w l) most → Begins st out n out
  unfolding statement unit_at looping for_condition nothing values
  begin_while e body l most is h m = begins _ is (λ r fs room s. m.same r fs room s ∙ rw (h.tests, h.nothing_behind, h.runs_body) refl)

  pub begin_for : (xs first bs : List Expr) (e : MaybeExpr) (body : List Stmt) (l : Looping) (most : ℕ) → plain_stmt st ≡ for_stmt (exprs_of xs) e (exprs_of bs) (stmts_of body) → first ≡ xs → maybe_plain l.test ≡ e → l.behind.now ≡ bs → l.body.now.items ≡ body
      → Means n (λ w. values_before w (exprs_of first) l) most → Begins st out n out
  unfolding statement unit_at values_before looping
  begin_for xs first bs e body l most is at test behind within m = begins _ is (λ r fs room s. m.same r fs room s ∙ rw (at, test, behind, within) refl)

  pub begin_return : (e : Option Expr) (most : ℕ) → plain_stmt st ≡ return_stmt (maybe_of e) → Means n (λ w. returning w (maybe_of e)) most → Begins st out n out
  unfolding statement unit_at returning
  begin_return e most is m = begins _ is (λ r fs room s. m.same r fs room s)

  pub begin_quit : (e : Option Expr) (most : ℕ) → plain_stmt st ≡ quit_stmt (maybe_of e) → Means n (λ w. quitting w (maybe_of e)) most → Begins st out n out
  unfolding statement unit_at quitting
  begin_quit e most is m = begins _ is (λ r fs room s. m.same r fs room s)

  pub begin_include : (t : List ℕ) → plain_stmt st ≡ include_stmt t → Begins st out n out
  begin_include t is = record { same = λ other r fs room s. absurd (true_is_not_false (sym (ap is_include is) ∙ other)) }

module _ (st : Stmt) (out : List ℕ) where
  pub begin_inline : (t after : List ℕ) → plain_stmt st ≡ inline_stmt t → after ≡ out ++ t → Begins st out (next.Left flow.GoesOn) after
  unfolding focused statement unit_at
  begin_inline t after is e = record { same = λ other r fs room s. rw (is, e) refl }

  pub begin_run : (v : Bor Expr) → plain_stmt st ≡ run_stmt (plain_expr v.now) → Begins st out (next.Eval v wait.Run) out
  unfolding focused wait_after statement unit_at
  begin_run v is = begins st _ out _ is (λ r fs room s. refl)

  pub begin_do_while : (e : Bor Expr) (body : Bor (Vec Stmt Global)) (l : Looping) → plain_stmt st ≡ do_while_stmt (stmts_of body.now.items) (plain_expr e.now) → IsWhile e body l → Begins st out (next.Turn l) out
  unfolding focused turning values_before looping statement unit_at for_condition nothing values ◌then_do◌
  begin_do_while e body l is h = begins st _ out _ is (λ r fs room s. rw (h.tests, h.nothing_behind, h.runs_body) refl)

  pub begin_each : (v : Bor Expr) (key : Option (Bor (List ℕ))) (k : Option (List ℕ)) (x : Bor (List ℕ)) (body : Bor (Vec Stmt Global)) → plain_stmt st ≡ each_stmt (plain_expr v.now) k x.now (stmts_of body.now.items) → name_of key ≡ k → Begins st out (next.Eval v (wait.Each key x body)) out
  unfolding focused wait_after each_value statement unit_at
  begin_each v key k x body is e = begins st _ out _ is (λ r fs room s. rw (← e) refl)

  pub begin_break : plain_stmt st ≡ break_stmt → Begins st out (next.Left flow.Breaks) out
  unfolding focused statement unit_at
  begin_break is = begins st _ out _ is (λ r fs room s. refl)

  pub begin_continue : plain_stmt st ≡ continue_stmt → Begins st out (next.Left flow.Continues) out
  unfolding focused statement unit_at
  begin_continue is = begins st _ out _ is (λ r fs room s. refl)
