-- The actions of statements make their trees.
use Rattle.script_grammar.specs.Expressions.{expr_tree, more_exprs_tree, list_tree}
use Rattle.script_grammar.specs.Statements.{maybe_tree, printed_tree, key_variable, value_variable, StmtForm, semicolon_form, inline_form, block_form, echo_form, print_form, run_form, if_form, colon_if_form, while_form, do_form, for_form, each_form, break_form, continue_form, return_form, include_form, include_parens_form, exit_form, exit_parens_form, StmtsForm, no_stmts_form, more_stmts_form, ArmsForm, no_arms_form, elseif_form, else_if_form, ElseForm, no_else_form, else_form, ColonArmsForm, no_colon_arms, colon_arm, ColonElseForm, no_colon_else, colon_else, BodyForm, stmt_body, colon_body, stmt_trees, stmts_trees, arms_tree, else_tree, colon_arms_tree, colon_else_tree, body_tree}
use Rattle.php_syntax.specs.Trees.{no_expr, inline_stmt, echo_stmt, run_stmt, if_stmt, while_stmt, do_while_stmt, for_stmt, each_stmt, break_stmt, continue_stmt, return_stmt, include_stmt, quit_stmt, no_stmts, more_arms, no_exprs, more_exprs}
use Rattle.stmt_machine.specs.Postfix.{stmt_actions, stmts_actions, arms_actions, else_actions, colon_arms_actions, colon_else_actions, body_actions}
use Rattle.stmt_laws.proofs.States.{Premise}
use Rattle.stmt_laws.proofs.TreeRuns.{BodyGoes, StatementsGo, one_more, as_body}
use Rattle.stmt_laws.proofs.TreeSimple.{inline_done, echo_done, print_done, run_done, break_done, continue_done, return_done, include_done, quit_nothing, quit_done}
use Rattle.stmt_laws.proofs.TreeLoops.{while_goes, do_goes, for_goes, each_goes}
use Rattle.stmt_laws.proofs.Ifs.{ArmsGo, ElseGoes, no_arms_go, elseif_goes, else_if_goes, no_else_goes, else_goes, if_goes}

mutual
  unfolding stmt_actions stmt_trees

  pub stmt_goes : Premise → (s : StmtForm) → StatementsGo (stmt_actions s) (stmt_trees s)
  stmt_goes p semicolon_form = λ ss finish l g k vs bs h fs q. q
  stmt_goes p (inline_form t) = one_more (stmt_actions (inline_form t)) (inline_stmt t) (inline_done t)
  stmt_goes p (block_form ss) = stmts_go p ss
  stmt_goes p (echo_form e es) = one_more (stmt_actions (echo_form e es)) (echo_stmt (more_exprs (expr_tree e) (more_exprs_tree es))) (echo_done p e es)
  stmt_goes p (print_form e) = one_more (stmt_actions (print_form e)) (echo_stmt (more_exprs (expr_tree e) no_exprs)) (print_done p e)
  stmt_goes p (run_form e) = one_more (stmt_actions (run_form e)) (run_stmt (expr_tree e)) (run_done p e)
  stmt_goes p (if_form e s a l) = one_more (stmt_actions (if_form e s a l)) (if_stmt (more_arms (expr_tree e) (stmt_trees s no_stmts) (arms_tree a)) (else_tree l))
      (if_goes p e (stmt_actions s) (stmt_trees s no_stmts) (arms_actions a) (arms_tree a) (else_actions l) (else_tree l) (as_body (stmt_actions s) (stmt_trees s) (stmt_goes p s)) (arms_go p a) (last_goes p l))
  stmt_goes p (colon_if_form e ss a l) = one_more (stmt_actions (colon_if_form e ss a l)) (if_stmt (more_arms (expr_tree e) (stmts_trees ss no_stmts) (colon_arms_tree a)) (colon_else_tree l))
      (if_goes p e (stmts_actions ss) (stmts_trees ss no_stmts) (colon_arms_actions a) (colon_arms_tree a) (colon_else_actions l) (colon_else_tree l) (as_body (stmts_actions ss) (stmts_trees ss) (stmts_go p ss)) (colon_arms_go p a) (colon_last_goes p l))
  stmt_goes p (while_form e b) = one_more (stmt_actions (while_form e b)) (while_stmt (expr_tree e) (body_tree b)) (while_goes p e (body_actions b) (body_tree b) (body_goes p b))
  stmt_goes p (do_form s e) = one_more (stmt_actions (do_form s e)) (do_while_stmt (stmt_trees s no_stmts) (expr_tree e))
      (do_goes p e (stmt_actions s) (stmt_trees s no_stmts) (as_body (stmt_actions s) (stmt_trees s) (stmt_goes p s)))
  stmt_goes p (for_form begin e next b) = one_more (stmt_actions (for_form begin e next b)) (for_stmt (list_tree begin) (maybe_tree e) (list_tree next) (body_tree b))
      (for_goes p begin e next (body_actions b) (body_tree b) (body_goes p b))
  stmt_goes p (each_form e v b) = one_more (stmt_actions (each_form e v b)) (each_stmt (expr_tree e) (key_variable v) (value_variable v) (body_tree b))
      (each_goes p e (key_variable v) (value_variable v) (body_actions b) (body_tree b) (body_goes p b))
  stmt_goes p break_form = one_more (stmt_actions break_form) break_stmt break_done
  stmt_goes p continue_form = one_more (stmt_actions continue_form) continue_stmt continue_done
  stmt_goes p (return_form e) = one_more (stmt_actions (return_form e)) (return_stmt (maybe_tree e)) (return_done p e)
  stmt_goes p (include_form k is t) = one_more (stmt_actions (include_form k is t)) (include_stmt t) (include_done t)
  stmt_goes p (include_parens_form k is t) = one_more (stmt_actions (include_parens_form k is t)) (include_stmt t) (include_done t)
  stmt_goes p exit_form = one_more (stmt_actions exit_form) (quit_stmt no_expr) quit_nothing
  stmt_goes p (exit_parens_form e) = one_more (stmt_actions (exit_parens_form e)) (quit_stmt (printed_tree e)) (quit_done p e)

  pub stmts_go : Premise → (ss : StmtsForm) → StatementsGo (stmts_actions ss) (stmts_trees ss)
  stmts_go p no_stmts_form = λ ss finish l g k vs bs h fs q. q
  stmts_go p (more_stmts_form s ss) = λ tt finish l g k vs bs h fs q. stmt_goes p s (stmts_trees ss tt) finish l g (stmts_actions ss k) vs bs h fs (stmts_go p ss tt finish l g k vs bs h fs q)

  arms_go : Premise → (a : ArmsForm) → ArmsGo (arms_actions a) (arms_tree a)
  arms_go p no_arms_form = no_arms_go
  arms_go p (elseif_form e s a) = elseif_goes p e (stmt_actions s) (stmt_trees s no_stmts) (arms_actions a) (arms_tree a) (as_body (stmt_actions s) (stmt_trees s) (stmt_goes p s)) (arms_go p a)
  arms_go p (else_if_form e s a) = else_if_goes p e (stmt_actions s) (stmt_trees s no_stmts) (arms_actions a) (arms_tree a) (as_body (stmt_actions s) (stmt_trees s) (stmt_goes p s)) (arms_go p a)

  last_goes : Premise → (l : ElseForm) → ElseGoes (else_actions l) (else_tree l)
  last_goes p no_else_form = no_else_goes
  last_goes p (else_form s) = else_goes (stmt_actions s) (stmt_trees s no_stmts) (as_body (stmt_actions s) (stmt_trees s) (stmt_goes p s))

  colon_arms_go : Premise → (a : ColonArmsForm) → ArmsGo (colon_arms_actions a) (colon_arms_tree a)
  colon_arms_go p no_colon_arms = no_arms_go
  colon_arms_go p (colon_arm e ss a) = elseif_goes p e (stmts_actions ss) (stmts_trees ss no_stmts) (colon_arms_actions a) (colon_arms_tree a) (as_body (stmts_actions ss) (stmts_trees ss) (stmts_go p ss)) (colon_arms_go p a)

  colon_last_goes : Premise → (l : ColonElseForm) → ElseGoes (colon_else_actions l) (colon_else_tree l)
  colon_last_goes p no_colon_else = no_else_goes
  colon_last_goes p (colon_else ss) = else_goes (stmts_actions ss) (stmts_trees ss no_stmts) (as_body (stmts_actions ss) (stmts_trees ss) (stmts_go p ss))

  body_goes : Premise → (b : BodyForm) → BodyGoes (body_actions b) (body_tree b)
  body_goes p (stmt_body s) = as_body (stmt_actions s) (stmt_trees s) (stmt_goes p s)
  body_goes p (colon_body ss) = as_body (stmts_actions ss) (stmts_trees ss) (stmts_go p ss)
