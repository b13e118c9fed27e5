-- Statements, functions and files: the grammar in EBNF form as derivations, with the terminals and the tree of each.
use Rattle.std.specs.Prelude.{◌≡◌, ℕ, ℤ, negsuc, Bool, true, false, not, ◌&&◌, if◌then◌else◌, List, [], ◌∷◌, Option, Some, None}
use Rattle.std.specs.Str.{str_to_ascii_lowercase}
use Rattle.std.specs.Ordering.{int_eq}
use Rattle.php_syntax.specs.declared.token.Sign.TheVariants as sign
use Rattle.script_grammar.specs.declared.keyword.Keyword.{Keyword}
use Rattle.script_grammar.specs.declared.keyword.Keyword.TheVariants as word
use Rattle.php_syntax.specs.Trees.{PlainExpr, null_expr, flag_expr, int_expr, text_expr, neg_expr, MaybeExpr, no_expr, some_expr, no_exprs, more_exprs, inline_stmt, echo_stmt, run_stmt, if_stmt, while_stmt, do_while_stmt, for_stmt, each_stmt, break_stmt, continue_stmt, return_stmt, include_stmt, quit_stmt, PlainStmts, no_stmts, more_stmts, PlainArms, no_arms, more_arms, PlainParam, PlainFunction, PlainFile}
use Rattle.script_grammar.specs.Terminals.{Terminal, inline_terminal, variable_terminal, word_terminal, name_terminal, int_terminal, text_terminal, sign_terminal}
use Rattle.script_grammar.specs.Expressions.{ExprForm, MoreExprsForm, ListForm, expr_terminals, more_exprs_terminals, list_terminals, expr_tree, more_exprs_tree, list_tree}

-- "(" e ")"
abbrev pub condition_terminals : ExprForm → List Terminal → List Terminal
condition_terminals e r = sign_terminal sign.OpenParen ∷ expr_terminals e (sign_terminal sign.CloseParen ∷ r)

-- [ e ]
pub data MaybeForm : Type 0 where
  nothing_form : MaybeForm
  something_form : ExprForm → MaybeForm

-- the terminals of an expression that may be left out, before those that follow it
abbrev pub maybe_terminals : MaybeForm → List Terminal → List Terminal
maybe_terminals nothing_form r = r
maybe_terminals (something_form e) r = expr_terminals e r

-- the tree of an expression that may be left out
abbrev pub maybe_tree : MaybeForm → MaybeExpr
maybe_tree nothing_form = no_expr
maybe_tree (something_form e) = some_expr (expr_tree e)

-- [ VAR "=>" ] VAR
pub data VariablesForm : Type 0 where
  value_form : List ℕ → VariablesForm
  key_value_form : List ℕ → List ℕ → VariablesForm

-- the terminals of the variables of a `foreach`, before those that follow them
abbrev pub variables_terminals : VariablesForm → List Terminal → List Terminal
variables_terminals (value_form x) r = variable_terminal x ∷ r
variables_terminals (key_value_form k x) r = variable_terminal k ∷ sign_terminal sign.DoubleArrow ∷ variable_terminal x ∷ r

-- the variable of the key, if one is named
abbrev pub key_variable : VariablesForm → Option (List ℕ)
key_variable (value_form x) = None
key_variable (key_value_form k x) = Some k

-- the variable of the value
abbrev pub value_variable : VariablesForm → List ℕ
value_variable (value_form x) = x
value_variable (key_value_form k x) = x

-- an integer whose negation is one too; that of the least integer would be a float, which PHP prints
abbrev pub is_negatable : PlainExpr → Bool
is_negatable (int_expr z) = not (int_eq z (negsuc 9223372036854775807))
is_negatable _ = false

-- an integer or a negated one, which `exit` takes as its status and does not print
abbrev pub is_status : PlainExpr → Bool
is_status (int_expr z) = true
is_status (neg_expr e) = is_negatable e
is_status _ = false

-- what `exit` prints
abbrev pub printed : PlainExpr → MaybeExpr
printed e = if is_status e then no_expr else some_expr e

-- what `exit` prints, by its operand, if it has one
abbrev pub printed_tree : MaybeForm → MaybeExpr
printed_tree nothing_form = no_expr
printed_tree (something_form e) = printed (expr_tree e)

-- "include" or "require"
abbrev pub is_include : Keyword → Bool
is_include word.Include = true
is_include word.Require = true
is_include _ = false

mutual
  -- stmt = ";" | INLINE | "{" { stmt } "}" | "echo" e { "," e } ";" | "print" e ";" | e ";"
  --      | "if" "(" e ")" stmt { ( "elseif" | "else" "if" ) "(" e ")" stmt } [ "else" stmt ]
  --      | "if" "(" e ")" ":" { stmt } { "elseif" "(" e ")" ":" { stmt } } [ "else" ":" { stmt } ] "endif" ";"
  --      | "while" "(" e ")" ( stmt | ":" { stmt } "endwhile" ";" )
  --      | "do" stmt "while" "(" e ")" ";"
  --      | "for" "(" list ";" [ e ] ";" list ")" ( stmt | ":" { stmt } "endfor" ";" )
  --      | "foreach" "(" e "as" [ VAR "=>" ] VAR ")" ( stmt | ":" { stmt } "endforeach" ";" )
  --      | "break" ";" | "continue" ";" | "return" [ e ] ";"
  --      | ( "include" | "require" ) ( STR | "(" STR ")" ) ";"
  --      | ( "exit" | "die" ) [ "(" [ e ] ")" ] ";"
  pub data StmtForm : Type 0 where
    semicolon_form : StmtForm
    inline_form : List ℕ → StmtForm
    block_form : StmtsForm → StmtForm
    echo_form : ExprForm → MoreExprsForm → StmtForm
    print_form : ExprForm → StmtForm
    run_form : ExprForm → StmtForm
    if_form : ExprForm → StmtForm → ArmsForm → ElseForm → StmtForm
    colon_if_form : ExprForm → StmtsForm → ColonArmsForm → ColonElseForm → StmtForm
    while_form : ExprForm → BodyForm → StmtForm
    do_form : StmtForm → ExprForm → StmtForm
    for_form : ListForm → MaybeForm → ListForm → BodyForm → StmtForm
    each_form : ExprForm → VariablesForm → BodyForm → StmtForm
    break_form : StmtForm
    continue_form : StmtForm
    return_form : MaybeForm → StmtForm
    include_form : (k : Keyword) → is_include k ≡ true → List ℕ → StmtForm
    include_parens_form : (k : Keyword) → is_include k ≡ true → List ℕ → StmtForm
    exit_form : StmtForm
    exit_parens_form : MaybeForm → StmtForm

  -- { stmt }
  pub data StmtsForm : Type 0 where
    no_stmts_form : StmtsForm
    more_stmts_form : StmtForm → StmtsForm → StmtsForm

  -- { ( "elseif" | "else" "if" ) "(" e ")" stmt }
  pub data ArmsForm : Type 0 where
    no_arms_form : ArmsForm
    elseif_form : ExprForm → StmtForm → ArmsForm → ArmsForm
    else_if_form : ExprForm → StmtForm → ArmsForm → ArmsForm

  -- [ "else" stmt ]
  pub data ElseForm : Type 0 where
    no_else_form : ElseForm
    else_form : StmtForm → ElseForm

  -- { "elseif" "(" e ")" ":" { stmt } }
  pub data ColonArmsForm : Type 0 where
    no_colon_arms : ColonArmsForm
    colon_arm : ExprForm → StmtsForm → ColonArmsForm → ColonArmsForm

  -- [ "else" ":" { stmt } ]
  pub data ColonElseForm : Type 0 where
    no_colon_else : ColonElseForm
    colon_else : StmtsForm → ColonElseForm

  -- the body of a loop: a statement, or statements between ":" and the word that ends the loop
  pub data BodyForm : Type 0 where
    stmt_body : StmtForm → BodyForm
    colon_body : StmtsForm → BodyForm

-- the terminals of a form, before those that follow it
unfoldable mutual
  -- the terminals of a statement
  pub stmt_terminals : StmtForm → List Terminal → List Terminal
  stmt_terminals semicolon_form r = sign_terminal sign.Semicolon ∷ r
  stmt_terminals (inline_form t) r = inline_terminal t ∷ r
  stmt_terminals (block_form ss) r = sign_terminal sign.OpenBrace ∷ stmts_terminals ss (sign_terminal sign.CloseBrace ∷ r)
  stmt_terminals (echo_form e es) r =
      word_terminal word.Echo ∷ expr_terminals e (more_exprs_terminals es (sign_terminal sign.Semicolon ∷ r))
  stmt_terminals (print_form e) r = word_terminal word.Print ∷ expr_terminals e (sign_terminal sign.Semicolon ∷ r)
  stmt_terminals (run_form e) r = expr_terminals e (sign_terminal sign.Semicolon ∷ r)
  stmt_terminals (if_form e s a l) r =
      word_terminal word.If ∷ condition_terminals e (stmt_terminals s (arms_terminals a (else_terminals l r)))
  stmt_terminals (colon_if_form e ss a l) r =
      word_terminal word.If ∷ condition_terminals e (sign_terminal sign.Colon
      ∷ stmts_terminals ss (colon_arms_terminals a (colon_else_terminals l (word_terminal word.EndIf ∷ sign_terminal sign.Semicolon ∷ r))))
  stmt_terminals (while_form e b) r = word_terminal word.While ∷ condition_terminals e (body_terminals word.EndWhile b r)
  stmt_terminals (do_form s e) r =
      word_terminal word.Do ∷ stmt_terminals s (word_terminal word.While ∷ condition_terminals e (sign_terminal sign.Semicolon ∷ r))
  stmt_terminals (for_form begin e next b) r =
      word_terminal word.For ∷ sign_terminal sign.OpenParen
      ∷ list_terminals begin (sign_terminal sign.Semicolon ∷ maybe_terminals e
      (sign_terminal sign.Semicolon ∷ list_terminals next (sign_terminal sign.CloseParen ∷ body_terminals word.EndFor b r)))
  stmt_terminals (each_form e v b) r =
      word_terminal word.Foreach ∷ sign_terminal sign.OpenParen
      ∷ expr_terminals e (word_terminal word.As ∷ variables_terminals v
      (sign_terminal sign.CloseParen ∷ body_terminals word.EndForeach b r))
  stmt_terminals break_form r = word_terminal word.Break ∷ sign_terminal sign.Semicolon ∷ r
  stmt_terminals continue_form r = word_terminal word.Continue ∷ sign_terminal sign.Semicolon ∷ r
  stmt_terminals (return_form e) r = word_terminal word.Return ∷ maybe_terminals e (sign_terminal sign.Semicolon ∷ r)
  stmt_terminals (include_form k is t) r = word_terminal k ∷ text_terminal t ∷ sign_terminal sign.Semicolon ∷ r
  stmt_terminals (include_parens_form k is t) r =
      word_terminal k ∷ sign_terminal sign.OpenParen ∷ text_terminal t ∷ sign_terminal sign.CloseParen ∷ sign_terminal sign.Semicolon ∷ r
  stmt_terminals exit_form r = word_terminal word.Exit ∷ sign_terminal sign.Semicolon ∷ r
  stmt_terminals (exit_parens_form e) r =
      word_terminal word.Exit ∷ sign_terminal sign.OpenParen
      ∷ maybe_terminals e (sign_terminal sign.CloseParen ∷ sign_terminal sign.Semicolon ∷ r)

  -- the terminals of statements
  pub stmts_terminals : StmtsForm → List Terminal → List Terminal
  stmts_terminals no_stmts_form r = r
  stmts_terminals (more_stmts_form s ss) r = stmt_terminals s (stmts_terminals ss r)

  -- the terminals of the further arms of an `if`
  pub arms_terminals : ArmsForm → List Terminal → List Terminal
  arms_terminals no_arms_form r = r
  arms_terminals (elseif_form e s a) r = word_terminal word.ElseIf ∷ condition_terminals e (stmt_terminals s (arms_terminals a r))
  arms_terminals (else_if_form e s a) r =
      word_terminal word.Else ∷ word_terminal word.If ∷ condition_terminals e (stmt_terminals s (arms_terminals a r))

  -- the terminals of an `else`
  pub else_terminals : ElseForm → List Terminal → List Terminal
  else_terminals no_else_form r = r
  else_terminals (else_form s) r = word_terminal word.Else ∷ stmt_terminals s r

  -- the terminals of the further arms of an `if` in the form with `:`
  pub colon_arms_terminals : ColonArmsForm → List Terminal → List Terminal
  colon_arms_terminals no_colon_arms r = r
  colon_arms_terminals (colon_arm e ss a) r =
      word_terminal word.ElseIf ∷ condition_terminals e (sign_terminal sign.Colon ∷ stmts_terminals ss (colon_arms_terminals a r))

  -- the terminals of an `else` in the form with `:`
  pub colon_else_terminals : ColonElseForm → List Terminal → List Terminal
  colon_else_terminals no_colon_else r = r
  colon_else_terminals (colon_else ss) r = word_terminal word.Else ∷ sign_terminal sign.Colon ∷ stmts_terminals ss r

  -- with the word that ends the loop
  pub body_terminals : Keyword → BodyForm → List Terminal → List Terminal
  body_terminals end (stmt_body s) r = stmt_terminals s r
  body_terminals end (colon_body ss) r =
      sign_terminal sign.Colon ∷ stmts_terminals ss (word_terminal end ∷ sign_terminal sign.Semicolon ∷ r)

-- The statements of a form, before those that follow it. An empty statement is none, and braces are their statements.
unfoldable mutual
  -- the statements that a statement is
  pub stmt_trees : StmtForm → PlainStmts → PlainStmts
  stmt_trees semicolon_form r = r
  stmt_trees (inline_form t) r = more_stmts (inline_stmt t) r
  stmt_trees (block_form ss) r = stmts_trees ss r
  stmt_trees (echo_form e es) r = more_stmts (echo_stmt (more_exprs (expr_tree e) (more_exprs_tree es))) r
  stmt_trees (print_form e) r = more_stmts (echo_stmt (more_exprs (expr_tree e) no_exprs)) r
  stmt_trees (run_form e) r = more_stmts (run_stmt (expr_tree e)) r
  stmt_trees (if_form e s a l) r = more_stmts (if_stmt (more_arms (expr_tree e) (stmt_trees s no_stmts) (arms_tree a)) (else_tree l)) r
  stmt_trees (colon_if_form e ss a l) r =
      more_stmts (if_stmt (more_arms (expr_tree e) (stmts_trees ss no_stmts) (colon_arms_tree a)) (colon_else_tree l)) r
  stmt_trees (while_form e b) r = more_stmts (while_stmt (expr_tree e) (body_tree b)) r
  stmt_trees (do_form s e) r = more_stmts (do_while_stmt (stmt_trees s no_stmts) (expr_tree e)) r
  stmt_trees (for_form begin e next b) r = more_stmts (for_stmt (list_tree begin) (maybe_tree e) (list_tree next) (body_tree b)) r
  stmt_trees (each_form e v b) r = more_stmts (each_stmt (expr_tree e) (key_variable v) (value_variable v) (body_tree b)) r
  stmt_trees break_form r = more_stmts break_stmt r
  stmt_trees continue_form r = more_stmts continue_stmt r
  stmt_trees (return_form e) r = more_stmts (return_stmt (maybe_tree e)) r
  stmt_trees (include_form k is t) r = more_stmts (include_stmt t) r
  stmt_trees (include_parens_form k is t) r = more_stmts (include_stmt t) r
  stmt_trees exit_form r = more_stmts (quit_stmt no_expr) r
  stmt_trees (exit_parens_form e) r = more_stmts (quit_stmt (printed_tree e)) r

  -- the statements that statements are
  pub stmts_trees : StmtsForm → PlainStmts → PlainStmts
  stmts_trees no_stmts_form r = r
  stmts_trees (more_stmts_form s ss) r = stmt_trees s (stmts_trees ss r)

  -- the further arms of an `if`, in their order
  pub arms_tree : ArmsForm → PlainArms
  arms_tree no_arms_form = no_arms
  arms_tree (elseif_form e s a) = more_arms (expr_tree e) (stmt_trees s no_stmts) (arms_tree a)
  arms_tree (else_if_form e s a) = more_arms (expr_tree e) (stmt_trees s no_stmts) (arms_tree a)

  -- the statements behind `else`; none where it is left out
  pub else_tree : ElseForm → PlainStmts
  else_tree no_else_form = no_stmts
  else_tree (else_form s) = stmt_trees s no_stmts

  -- the further arms of an `if` in the form with `:`, in their order
  pub colon_arms_tree : ColonArmsForm → PlainArms
  colon_arms_tree no_colon_arms = no_arms
  colon_arms_tree (colon_arm e ss a) = more_arms (expr_tree e) (stmts_trees ss no_stmts) (colon_arms_tree a)

  -- the statements behind `else` in the form with `:`; none where it is left out
  pub colon_else_tree : ColonElseForm → PlainStmts
  colon_else_tree no_colon_else = no_stmts
  colon_else_tree (colon_else ss) = stmts_trees ss no_stmts

  -- the statements of the body of a loop
  pub body_tree : BodyForm → PlainStmts
  body_tree (stmt_body s) = stmt_trees s no_stmts
  body_tree (colon_body ss) = stmts_trees ss no_stmts

-- whether an `else` behind a statement could belong to an `if` at its end
unfoldable mutual
  -- whether an `else` behind a statement could belong to an `if` at its end
  pub takes_else : StmtForm → Bool
  takes_else (if_form e s a no_else_form) = true
  takes_else (if_form e s a (else_form b)) = takes_else b
  takes_else (while_form e b) = body_takes_else b
  takes_else (for_form begin e next b) = body_takes_else b
  takes_else (each_form e v b) = body_takes_else b
  takes_else _ = false

  -- the same behind the body of a loop; the word that ends a body with `:` stands between
  pub body_takes_else : BodyForm → Bool
  body_takes_else (stmt_body s) = takes_else s
  body_takes_else (colon_body ss) = false

-- whether an `if` in the form with words stands first
abbrev pub is_if : StmtForm → Bool
is_if (if_form e s a l) = true
is_if _ = false

-- whether an arm or an `else` follows a statement of an `if`
abbrev pub goes_on : ArmsForm → ElseForm → Bool
goes_on no_arms_form no_else_form = false
goes_on _ _ = true

-- the same between `:` and `endif`
abbrev pub colon_goes_on : ColonArmsForm → ColonElseForm → Bool
colon_goes_on no_colon_arms no_colon_else = false
colon_goes_on _ _ = true

-- whether an `else` behind statements could belong to an `if` at the end of the last one
abbrev pub last_takes_else : StmtsForm → Bool
last_takes_else no_stmts_form = false
last_takes_else (more_stmts_form s no_stmts_form) = takes_else s
last_takes_else (more_stmts_form s (more_stmts_form t ss)) = last_takes_else (more_stmts_form t ss)

-- Whether each `else` and each `elseif` belongs to the nearest `if` that can take it, and each `else if` that can be one more arm is one.
unfoldable mutual
  -- whether in a statement each `else`, `elseif` and `else if` belongs to the nearest `if` that can take it
  pub nearest : StmtForm → Bool
  nearest (block_form ss) = all_nearest ss
  nearest (if_form e s a l) = nearest s && (not (takes_else s && goes_on a l) && (arms_nearest a l && else_nearest l))
  nearest (colon_if_form e ss a l) =
      all_nearest ss && (not (last_takes_else ss && colon_goes_on a l) && (colon_arms_nearest a l && colon_else_nearest l))
  nearest (while_form e b) = body_nearest b
  nearest (do_form s e) = nearest s
  nearest (for_form begin e next b) = body_nearest b
  nearest (each_form e v b) = body_nearest b
  nearest _ = true

  -- the same in each of the statements
  pub all_nearest : StmtsForm → Bool
  all_nearest no_stmts_form = true
  all_nearest (more_stmts_form s ss) = nearest s && all_nearest ss

  -- the same in the further arms of an `if`, before its `else`
  pub arms_nearest : ArmsForm → ElseForm → Bool
  arms_nearest no_arms_form l = true
  arms_nearest (elseif_form e s a) l = nearest s && (not (takes_else s && goes_on a l) && arms_nearest a l)
  arms_nearest (else_if_form e s a) l = nearest s && (not (takes_else s && goes_on a l) && arms_nearest a l)

  -- the same in the statement of an `else`, which is itself no `if` in the form with words
  pub else_nearest : ElseForm → Bool
  else_nearest no_else_form = true
  else_nearest (else_form s) = nearest s && not (is_if s)

  -- the same in the further arms of an `if` in the form with `:`
  pub colon_arms_nearest : ColonArmsForm → ColonElseForm → Bool
  colon_arms_nearest no_colon_arms l = true
  colon_arms_nearest (colon_arm e ss a) l = all_nearest ss && (not (last_takes_else ss && colon_goes_on a l) && colon_arms_nearest a l)

  -- the same in the statements of an `else` in the form with `:`
  pub colon_else_nearest : ColonElseForm → Bool
  colon_else_nearest no_colon_else = true
  colon_else_nearest (colon_else ss) = all_nearest ss

  -- the same in the body of a loop
  pub body_nearest : BodyForm → Bool
  body_nearest (stmt_body s) = nearest s
  body_nearest (colon_body ss) = all_nearest ss

-- lit = INT | "-" INT | STR | "true" | "false" | "null"
pub data LiteralForm : Type 0 where
  int_literal : ℤ → LiteralForm
  negated_literal : ℤ → LiteralForm
  text_literal : List ℕ → LiteralForm
  true_literal : LiteralForm
  false_literal : LiteralForm
  null_literal : LiteralForm

-- the terminals of a literal, before those that follow it
abbrev pub literal_terminals : LiteralForm → List Terminal → List Terminal
literal_terminals (int_literal z) r = int_terminal z ∷ r
literal_terminals (negated_literal z) r = sign_terminal sign.Minus ∷ int_terminal z ∷ r
literal_terminals (text_literal t) r = text_terminal t ∷ r
literal_terminals true_literal r = word_terminal word.True ∷ r
literal_terminals false_literal r = word_terminal word.False ∷ r
literal_terminals null_literal r = word_terminal word.Null ∷ r

-- the tree of a literal; a minus sign stays an operator
abbrev pub literal_tree : LiteralForm → PlainExpr
literal_tree (int_literal z) = int_expr z
literal_tree (negated_literal z) = neg_expr (int_expr z)
literal_tree (text_literal t) = text_expr t
literal_tree true_literal = flag_expr true
literal_tree false_literal = flag_expr false
literal_tree null_literal = null_expr

-- param = VAR [ "=" lit ]
pub data ParamForm : Type 0 where
  param_form : List ℕ → ParamForm
  default_form : List ℕ → LiteralForm → ParamForm

-- the terminals of a parameter, before those that follow it
abbrev pub param_terminals : ParamForm → List Terminal → List Terminal
param_terminals (param_form x) r = variable_terminal x ∷ r
param_terminals (default_form x l) r = variable_terminal x ∷ sign_terminal sign.Assign ∷ literal_terminals l r

-- a parameter by its name, with the tree of its default, if it has one
abbrev pub param_tree : ParamForm → PlainParam
param_tree (param_form x) = record { name_of = x; default_of = no_expr }
param_tree (default_form x l) = record { name_of = x; default_of = some_expr (literal_tree l) }

-- [ param { "," param } ]
abbrev pub more_params_terminals : List ParamForm → List Terminal → List Terminal
more_params_terminals [] r = r
more_params_terminals (p ∷ ps) r = sign_terminal sign.Comma ∷ param_terminals p (more_params_terminals ps r)

-- the terminals of the parameters with commas between them, before those that follow them
abbrev pub params_terminals : List ParamForm → List Terminal → List Terminal
params_terminals [] r = r
params_terminals (p ∷ ps) r = param_terminals p (more_params_terminals ps r)

-- the parameters in their order
abbrev pub params_trees : List ParamForm → List PlainParam
params_trees [] = []
params_trees (p ∷ ps) = param_tree p ∷ params_trees ps

-- function = "function" NAME "(" [ param { "," param } ] ")" "{" { stmt } "}"
pub data FunctionForm : Type 0 where
  function_form : List ℕ → List ParamForm → StmtsForm → FunctionForm

-- the terminals of a function, before those that follow it
abbrev pub function_terminals : FunctionForm → List Terminal → List Terminal
function_terminals (function_form f ps ss) r =
    word_terminal word.Function ∷ name_terminal f ∷ sign_terminal sign.OpenParen
    ∷ params_terminals ps (sign_terminal sign.CloseParen ∷ sign_terminal sign.OpenBrace
    ∷ stmts_terminals ss (sign_terminal sign.CloseBrace ∷ r))

-- a function by its name in lower case, since names of functions have no case, with its parameters and its body
abbrev pub function_tree : FunctionForm → PlainFunction
function_tree (function_form f ps ss) = record {
  name_of = str_to_ascii_lowercase f;
  params_of = params_trees ps;
  body_of = stmts_trees ss no_stmts;
}

-- whether each `else` in the function's body belongs to the nearest `if` that can take it
abbrev pub function_nearest : FunctionForm → Bool
function_nearest (function_form f ps ss) = all_nearest ss

-- file = { function | stmt }
pub data FileForm : Type 0 where
  end_of_file : FileForm
  function_part : FunctionForm → FileForm → FileForm
  stmt_part : StmtForm → FileForm → FileForm

-- the terminals of a file, from its first to its last
abbrev pub file_terminals : FileForm → List Terminal
file_terminals end_of_file = []
file_terminals (function_part f p) = function_terminals f (file_terminals p)
file_terminals (stmt_part s p) = stmt_terminals s (file_terminals p)

-- the statements outside functions, and the functions
abbrev pub file_stmts : FileForm → PlainStmts
file_stmts end_of_file = no_stmts
file_stmts (function_part f p) = file_stmts p
file_stmts (stmt_part s p) = stmt_trees s (file_stmts p)

-- the functions of a file in their order
abbrev pub file_functions : FileForm → List PlainFunction
file_functions end_of_file = []
file_functions (function_part f p) = function_tree f ∷ file_functions p
file_functions (stmt_part s p) = file_functions p

-- the tree of a file: its statements outside functions, and its functions
abbrev pub file_tree : FileForm → PlainFile
file_tree f = record { body_of = file_stmts f; functions_of = file_functions f }

-- whether each `else` of the file belongs to the nearest `if` that can take it
abbrev pub file_nearest : FileForm → Bool
file_nearest end_of_file = true
file_nearest (function_part f p) = function_nearest f && file_nearest p
file_nearest (stmt_part s p) = nearest s && file_nearest p
