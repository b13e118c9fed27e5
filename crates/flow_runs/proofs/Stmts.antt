-- The points of statements do what they do.
use Rattle.std.proofs.Common.{◌≡◌, ℕ, suc, ◌+◌, ◌≤◌, ◌∷◌, ◌++◌, Some, refl, true, arith}
use Rattle.std.specs.Prelude.{if◌then◌else◌}
use Rattle.php_syntax.specs.Trees.{MaybeExpr, no_expr, some_expr, PlainExprs, no_exprs, more_exprs, PlainStmt, inline_stmt, echo_stmt, run_stmt, if_stmt, while_stmt, do_while_stmt, for_stmt, each_stmt, break_stmt, continue_stmt, return_stmt, include_stmt, quit_stmt, PlainStmts, no_stmts, more_stmts, PlainArms, no_arms, more_arms}
use Rattle.plain_values.specs.Plain.{Plain, null}
use Rattle.plain_values.specs.Text.{truth, text_of}
use Rattle.script_meaning.specs.Runs.{State, Run, Going, Over, ◌then_do◌, printing}
use Rattle.script_meaning.specs.Expressions.{value, values, maybe_value}
use Rattle.script_meaning.specs.Statements.{Flow, goes_on, next_after, condition, for_condition, loop, echo, returned, exit_with, statement, statements, arms_in}
use Rattle.program_expressions.specs.Collected.{collected, collected_of}
use Rattle.flow_code.specs.Variables.{own_names, names_in, maybe_names, names_in_all, key_names, names_of_stmt, names_of, names_of_arms}
use Rattle.flow_code.specs.Code.{Block}
use Rattle.flow_code.specs.Completion.{completes, all_complete}
use Rattle.flow_code.specs.Expressions.{Scope}
use Rattle.flow_code.specs.Statements.{echo_block, test_code, return_block, quit_block, stmt_block, block, arms_block}
use Rattle.flow_runs.specs.Defaults.{HaveDefaults}
use Rattle.flow_runs.specs.Keyed.{ExprKeyed, MaybeKeyed, ExprsKeyed, StmtKeyed, StmtsKeyed, ArmsKeyed}
use Rattle.flow_runs.proofs.Ends.{World}
use Rattle.flow_runs.proofs.Names.{HasAll, all_front, all_back}
use Rattle.flow_runs.proofs.Calls.{env, CallsDo, does_literal}
use Rattle.flow_runs.proofs.Trees.{code_does, codes_does}
use Rattle.flow_runs.proofs.Leaving.{stmt_left, stmts_left}
use Rattle.flow_runs.proofs.Blocks.{DoesBlock, DoesTest, block_same, heavier, does_unit, does_nothing, does_before, does_next, does_run, does_print, does_echo, does_break, does_continue, does_return, does_quit, does_quit_with, does_test, does_no_test, does_behind, does_no_behind, does_arm}
use Rattle.flow_runs.proofs.Loops.{does_looping, does_repeating, does_walking}

echo_then : (r : Run Plain) (go : State → Run Flow) → ((r then_do λ v s. Going goes_on (printing (text_of v) s)) then_do λ flow s. next_after flow s go) ≡ (r then_do λ v s. go (printing (text_of v) s))
unfolding ◌then_do◌ next_after
echo_then (Going v s) go = refl
echo_then (Over end w) go = refl

run_then : {A : Type 0} (r : Run A) (go : State → Run Flow) → ((r then_do λ v s. Going goes_on s) then_do λ flow s. next_after flow s go) ≡ (r then_do λ v s. go s)
unfolding ◌then_do◌ next_after
run_then (Going v s) go = refl
run_then (Over end w) go = refl

made_then : {U V W : Type 0} (r : Run U) (make : U → V) (go : V → State → Run W) → (r then_do λ v s. go (make v) s) ≡ ((r then_do λ v s. Going (make v) s) then_do go)
unfolding ◌then_do◌
made_then (Going v s) make go = refl
made_then (Over end w) make go = refl

unfoldable mutual
  -- how many units a statement may take that its points do not pay: one for each statement in it, and one more for each loop
  pub stmt_units : PlainStmt → ℕ
  stmt_units (inline_stmt bytes) = 1
  stmt_units (echo_stmt es) = 1
  stmt_units (run_stmt e) = 1
  stmt_units (if_stmt arms otherwise) = suc (arms_units arms + stmts_units otherwise)
  stmt_units (while_stmt e body) = suc (suc (stmts_units body))
  stmt_units (do_while_stmt body e) = suc (suc (stmts_units body))
  stmt_units (for_stmt begin e next body) = suc (suc (stmts_units body))
  stmt_units (each_stmt e key x body) = suc (suc (stmts_units body))
  stmt_units break_stmt = 1
  stmt_units continue_stmt = 1
  stmt_units (return_stmt e) = 1
  stmt_units (include_stmt path) = 0
  stmt_units (quit_stmt e) = 1

  -- those of statements
  pub stmts_units : PlainStmts → ℕ
  stmts_units no_stmts = 0
  stmts_units (more_stmts s ss) = stmt_units s + stmts_units ss

  -- those of the bodies of arms
  pub arms_units : PlainArms → ℕ
  arms_units no_arms = 0
  arms_units (more_arms e body arms) = stmts_units body + arms_units arms

module _ {m : World} {w : Scope} (calls : CallsDo m w.functions) (defaults : HaveDefaults w.functions) where
  echo_does : (es : PlainExprs) → HasAll w.names (names_in_all es) → (m.strict ≡ true → ExprsKeyed es) → DoesBlock m 0 w (echo_block w es) (echo (env m w.functions) es)
  unfolding echo_block echo collected own_names ExprKeyed
  echo_does no_exprs h o = does_nothing
  echo_does (more_exprs e es) h o =
      block_same _ _ (λ s. echo_then (value (env m w.functions) e s) (echo (env m w.functions) es))
      (does_before (does_echo (code_does calls defaults e (all_front w.names (names_in e) (names_in_all es) h) (λ k. (o k).0))) (echo_does es (all_back w.names (names_in e) (names_in_all es) h) (λ k. (o k).1)))

  test_does : (e : MaybeExpr) → HasAll w.names (maybe_names e) → (m.strict ≡ true → MaybeKeyed e) → DoesTest m w (test_code w e) (for_condition (env m w.functions) e)
  unfolding test_code for_condition condition collected own_names ExprKeyed
  test_does no_expr h o = does_no_test
  test_does (some_expr e) h o = does_test (code_does calls defaults e h o)

  return_does : (e : MaybeExpr) → HasAll w.names (maybe_names e) → (m.strict ≡ true → MaybeKeyed e) → DoesBlock m 0 w (return_block w e) (λ s. maybe_value (env m w.functions) e s then_do λ v s. Going (returned v) s)
  unfolding return_block value returned ◌then_do◌ collected own_names ExprKeyed
  return_does no_expr h o = does_return (does_literal null)
  return_does (some_expr e) h o = block_same _ _ (λ s. made_then (value (env m w.functions) e s) Some (λ v s. Going (returned v) s)) (does_return (code_does calls defaults e h o))

  quit_does : (e : MaybeExpr) → HasAll w.names (maybe_names e) → (m.strict ≡ true → MaybeKeyed e) → DoesBlock m 0 w (quit_block w e) (λ s. maybe_value (env m w.functions) e s then_do λ v s. exit_with v s)
  unfolding quit_block value ◌then_do◌ collected own_names ExprKeyed
  quit_does no_expr h o = does_quit
  quit_does (some_expr e) h o = block_same _ _ (λ s. made_then (value (env m w.functions) e s) Some exit_with) (does_quit_with (code_does calls defaults e h o))

  mutual
    unfolding stmt_block statement collected_of own_names condition StmtKeyed stmt_units

    pub stmt_does : (st : PlainStmt) → HasAll w.names (names_of_stmt st) → (m.strict ≡ true → StmtKeyed st) → stmt_units st ≤ m.cost → DoesBlock m (stmt_units st) w (stmt_block w st) (statement (env m w.functions) st)
    stmt_does (inline_stmt bytes) h o n = does_unit (does_print bytes)
    stmt_does (echo_stmt es) h o n = does_unit (echo_does es h o)
    stmt_does (run_stmt e) h o n = does_unit (does_run (code_does calls defaults e h o))
    stmt_does (if_stmt arms otherwise) h o n = does_unit (arms_does arms (all_front w.names (names_of_arms arms) (names_of otherwise) h) (λ k. (o k).0) (omega (arith, n)) (block_does otherwise (all_back w.names (names_of_arms arms) (names_of otherwise) h) (λ k. (o k).1) (omega (arith, n))))
    stmt_does (while_stmt e body) h o n = does_unit (heavier (suc (stmts_units body + 0)) (suc (stmts_units body)) (omega arith) (does_looping (omega (arith, n)) (does_test (code_does calls defaults e (all_front w.names (names_in e) (names_of body) h) (λ k. (o k).0))) (block_does body (all_back w.names (names_in e) (names_of body) h) (λ k. (o k).1) (omega (arith, n))) does_no_behind))
    stmt_does (do_while_stmt body e) h o n = does_unit (heavier (suc (stmts_units body + 0)) (suc (stmts_units body)) (omega arith) (does_repeating (omega (arith, n)) (block_does body (all_front w.names (names_of body) (names_in e) h) (λ k. (o k).0) (omega (arith, n))) (code_does calls defaults e (all_back w.names (names_of body) (names_in e) h) (λ k. (o k).1))))
    stmt_does (for_stmt begin e next body) h o n =
        let h1 = all_back w.names (names_in_all begin) (maybe_names e ++ (names_in_all next ++ names_of body)) h in
        let h2 = all_back w.names (maybe_names e) (names_in_all next ++ names_of body) h1 in
        does_unit (heavier (0 + suc (stmts_units body + 0)) (suc (stmts_units body)) (omega arith) (block_same _ _ (λ s. run_then (values (env m w.functions) begin s) (loop (for_condition (env m w.functions) e) (statements (env m w.functions) body) (values (env m w.functions) next)))
        (does_before (does_run (codes_does calls defaults begin (all_front w.names (names_in_all begin) (maybe_names e ++ (names_in_all next ++ names_of body)) h) (λ k. (o k).0)))
        (does_looping (omega (arith, n)) (test_does e (all_front w.names (maybe_names e) (names_in_all next ++ names_of body) h1) (λ k. (o k).1)) (block_does body (all_back w.names (names_in_all next) (names_of body) h2) (λ k. (o k).3) (omega (arith, n))) (does_behind (codes_does calls defaults next (all_front w.names (names_in_all next) (names_of body) h2) (λ k. (o k).2)))))))
    stmt_does (each_stmt e key x body) h o n =
        let h1 = all_back w.names (names_in e) (key_names key ++ x ∷ names_of body) h in
        let h2 = all_back w.names (key_names key) (x ∷ names_of body) h1 in
        does_unit (heavier 0 (suc (stmts_units body)) (omega arith) (does_walking key x (all_front w.names (key_names key) (x ∷ names_of body) h1) h2.0 (omega (arith, n)) (code_does calls defaults e (all_front w.names (names_in e) (key_names key ++ x ∷ names_of body) h) (λ k. (o k).0)) (block_does body h2.1 (λ k. (o k).1) (omega (arith, n)))))
    stmt_does break_stmt h o n = does_unit does_break
    stmt_does continue_stmt h o n = does_unit does_continue
    stmt_does (return_stmt e) h o n = does_unit (return_does e h o)
    stmt_does (include_stmt path) h o n = does_nothing
    stmt_does (quit_stmt e) h o n = does_unit (quit_does e h o)

    pub block_does : (ss : PlainStmts) → HasAll w.names (names_of ss) → (m.strict ≡ true → StmtsKeyed ss) → stmts_units ss ≤ m.cost → DoesBlock m (stmts_units ss) w (block w ss) (statements (env m w.functions) ss)
    block_does no_stmts h o n = does_nothing
    block_does (more_stmts st ss) h o n = does_next (completes st) (stmt_left (env m w.functions) st) (stmt_does st (all_front w.names (names_of_stmt st) (names_of ss) h) (λ k. (o k).0) (omega (arith, n))) (block_does ss (all_back w.names (names_of_stmt st) (names_of ss) h) (λ k. (o k).1) (omega (arith, n)))

    pub arms_does : (arms : PlainArms) → HasAll w.names (names_of_arms arms) → (m.strict ≡ true → ArmsKeyed arms) → arms_units arms ≤ m.cost → {other : Block} {c : ℕ} {run : State → Run Flow} → DoesBlock m c w other run → DoesBlock m (arms_units arms + c) w (arms_block w arms other) (arms_in (env m w.functions) arms run)
    arms_does no_arms h o n {c = c} d = heavier c (0 + c) (omega arith) d
    arms_does (more_arms e body arms) h o n {other} {c} {run} d =
        let h1 = all_back w.names (names_in e) (names_of body ++ names_of_arms arms) h in
        heavier (stmts_units body + (arms_units arms + c)) (arms_units (more_arms e body arms) + c) (omega arith)
        (block_same _ _ (λ s. made_then (value (env m w.functions) e s) truth (λ holds s. if holds then statements (env m w.functions) body s else arms_in (env m w.functions) arms run s))
        (does_arm (all_complete body) (stmts_left (env m w.functions) body) (code_does calls defaults e (all_front w.names (names_in e) (names_of body ++ names_of_arms arms) h) (λ k. (o k).0)) (block_does body (all_front w.names (names_of body) (names_of_arms arms) h1) (λ k. (o k).1) (omega (arith, n))) (arms_does arms (all_back w.names (names_of body) (names_of_arms arms) h1) (λ k. (o k).2) (omega (arith, n)) d)))
