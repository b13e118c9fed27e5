-- The actions of a statement, a function and a file in postfix order, by its derivation. They stand before the actions that follow.
use Rattle.std.specs.Prelude.{ℕ, ◌+◌, Bool, true, false, List, [], ◌∷◌}
use Rattle.script_grammar.specs.Expressions.{ExprForm, MoreExprsForm, no_more_exprs, one_more_expr, ListForm, empty_list, list_form}
use Rattle.script_grammar.specs.Statements.{MaybeForm, nothing_form, something_form, key_variable, value_variable, StmtForm, semicolon_form, inline_form, block_form, echo_form, print_form, run_form, if_form, colon_if_form, while_form, do_form, for_form, each_form, break_form, continue_form, return_form, include_form, include_parens_form, exit_form, exit_parens_form, StmtsForm, no_stmts_form, more_stmts_form, ArmsForm, no_arms_form, elseif_form, else_if_form, ElseForm, no_else_form, else_form, ColonArmsForm, no_colon_arms, colon_arm, ColonElseForm, no_colon_else, colon_else, BodyForm, stmt_body, colon_body, ParamForm, param_tree, FunctionForm, function_form, FileForm, end_of_file, function_part, stmt_part}
use Rattle.php_syntax.specs.Trees.{PlainParam}
use Rattle.expr_machine.specs.Postfix.{expr_actions, exprs_count}
use Rattle.stmt_machine.specs.declared.frame.Loop.TheVariants as loop
use Rattle.stmt_machine.specs.Actions.{StmtAction, value_action, open_action, inline_action, echo_action, run_action, if_action, loop_action, do_action, break_action, continue_action, return_action, include_action, exit_action, function_action, parameter_action, function_body_action, function_end_action}

-- an expression, more of them, a list, and one that may be left out
abbrev pub value_actions : ExprForm → List StmtAction → List StmtAction
value_actions e r = value_action (expr_actions e []) ∷ r

-- the actions of the further expressions of a list, before those that follow
abbrev pub more_values_actions : MoreExprsForm → List StmtAction → List StmtAction
more_values_actions no_more_exprs r = r
more_values_actions (one_more_expr e es) r = value_actions e (more_values_actions es r)

-- the actions of a list of expressions, before those that follow
abbrev pub list_values_actions : ListForm → List StmtAction → List StmtAction
list_values_actions empty_list r = r
list_values_actions (list_form e es) r = value_actions e (more_values_actions es r)

-- how many expressions a list has
abbrev pub list_count : ListForm → ℕ
list_count empty_list = 0
list_count (list_form e es) = exprs_count es + 1

-- the actions of an expression that may be left out, before those that follow
abbrev pub maybe_value_actions : MaybeForm → List StmtAction → List StmtAction
maybe_value_actions nothing_form r = r
maybe_value_actions (something_form e) r = value_actions e r

-- whether the expression is there
abbrev pub is_something : MaybeForm → Bool
is_something nothing_form = false
is_something (something_form e) = true

unfoldable mutual
  -- the actions of a statement
  pub stmt_actions : StmtForm → List StmtAction → List StmtAction
  stmt_actions semicolon_form r = r
  stmt_actions (inline_form t) r = inline_action t ∷ r
  stmt_actions (block_form ss) r = stmts_actions ss r
  stmt_actions (echo_form e es) r = value_actions e (more_values_actions es (echo_action (exprs_count es + 1) ∷ r))
  stmt_actions (print_form e) r = value_actions e (echo_action 1 ∷ r)
  stmt_actions (run_form e) r = value_actions e (run_action ∷ r)
  stmt_actions (if_form e s a l) r = value_actions e (open_action false ∷ stmt_actions s (arms_actions a 1 (λ n. else_actions l n r)))
  stmt_actions (colon_if_form e ss a l) r =
      value_actions e (open_action false ∷ stmts_actions ss (colon_arms_actions a 1 (λ n. colon_else_actions l n r)))
  stmt_actions (while_form e b) r = value_actions e (open_action true ∷ body_actions b (loop_action loop.While ∷ r))
  stmt_actions (do_form s e) r = open_action true ∷ stmt_actions s (value_actions e (do_action ∷ r))
  stmt_actions (for_form begin e next b) r =
      list_values_actions begin (maybe_value_actions e (list_values_actions next
      (open_action true ∷ body_actions b (loop_action (loop.For (list_count begin) (is_something e) (list_count next)) ∷ r))))
  stmt_actions (each_form e v b) r =
      value_actions e (open_action true ∷ body_actions b (loop_action (loop.Each (key_variable v) (value_variable v)) ∷ r))
  stmt_actions break_form r = break_action ∷ r
  stmt_actions continue_form r = continue_action ∷ r
  stmt_actions (return_form e) r = maybe_value_actions e (return_action (is_something e) ∷ r)
  stmt_actions (include_form k is t) r = include_action t ∷ r
  stmt_actions (include_parens_form k is t) r = include_action t ∷ r
  stmt_actions exit_form r = exit_action false ∷ r
  stmt_actions (exit_parens_form e) r = maybe_value_actions e (exit_action (is_something e) ∷ r)

  -- the actions of statements, in their order
  pub stmts_actions : StmtsForm → List StmtAction → List StmtAction
  stmts_actions no_stmts_form r = r
  stmts_actions (more_stmts_form s ss) r = stmt_actions s (stmts_actions ss r)

  -- further arms behind so many, and what follows all of them
  pub arms_actions : ArmsForm → ℕ → (ℕ → List StmtAction) → List StmtAction
  arms_actions no_arms_form n next = next n
  arms_actions (elseif_form e s a) n next = value_actions e (open_action false ∷ stmt_actions s (arms_actions a (n + 1) next))
  arms_actions (else_if_form e s a) n next = open_action false ∷ value_actions e (stmt_actions s (arms_actions a (n + 1) next))

  -- the actions of an `else`, if there is one, and of the `if` of so many arms
  pub else_actions : ElseForm → ℕ → List StmtAction → List StmtAction
  else_actions no_else_form n r = if_action n false ∷ r
  else_actions (else_form s) n r = open_action false ∷ stmt_actions s (if_action n true ∷ r)

  -- further arms in the form with `:` behind so many, and what follows all of them
  pub colon_arms_actions : ColonArmsForm → ℕ → (ℕ → List StmtAction) → List StmtAction
  colon_arms_actions no_colon_arms n next = next n
  colon_arms_actions (colon_arm e ss a) n next = value_actions e (open_action false ∷ stmts_actions ss (colon_arms_actions a (n + 1) next))

  -- the actions of an `else` in the form with `:`, if there is one, and of the `if` of so many arms
  pub colon_else_actions : ColonElseForm → ℕ → List StmtAction → List StmtAction
  colon_else_actions no_colon_else n r = if_action n false ∷ r
  colon_else_actions (colon_else ss) n r = open_action false ∷ stmts_actions ss (if_action n true ∷ r)

  -- the actions of the statements in the body of a loop
  pub body_actions : BodyForm → List StmtAction → List StmtAction
  body_actions (stmt_body s) r = stmt_actions s r
  body_actions (colon_body ss) r = stmts_actions ss r

-- the parameters of a function, a function, and the parts of a file
abbrev pub param_actions : PlainParam → List StmtAction → List StmtAction
param_actions p r = parameter_action p.name_of p.default_of ∷ r

-- the actions of parameters, before those that follow
abbrev pub params_actions : List ParamForm → List StmtAction → List StmtAction
params_actions [] r = r
params_actions (p ∷ ps) r = param_actions (param_tree p) (params_actions ps r)

-- the actions of a function, before those that follow
abbrev pub function_actions : FunctionForm → List StmtAction → List StmtAction
function_actions (function_form f ps ss) r =
    function_action f ∷ params_actions ps (function_body_action ∷ stmts_actions ss (function_end_action ∷ r))

-- the actions of a file
abbrev pub file_actions : FileForm → List StmtAction
file_actions end_of_file = []
file_actions (function_part f p) = function_actions f (file_actions p)
file_actions (stmt_part s p) = stmt_actions s (file_actions p)
