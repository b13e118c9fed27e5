-- What each rule of the language makes of the values of its right side; the grammar's text says which rule makes what. The trees are those
-- of the language (docs/language.md). An action gives nothing where the rule is outside of the language, or what stands in it is.
use Rattle.std.specs.Prelude.{ℕ, Bool, true, false, if◌then◌else◌, List, [], ◌∷◌, ◌++◌, Option, Some, None, slice_index_or, codes}
use Rattle.std.specs.Option.{option_map}
use Rattle.std.specs.Str.{str_eq_ignore_ascii_case, str_to_ascii_lowercase}
use Rattle.php_syntax.specs.declared.token.Sign.{Sign}
use Rattle.php_syntax.specs.Tokens.{inline, integer, text, template}
use Rattle.php_syntax.specs.Trees.{PlainExpr, int_expr, text_expr, join_expr, coalesce_expr, choice_expr, isset_expr, empty_expr, array_expr, assign_expr, update_expr, step_expr, call_expr, member_expr, MaybeExpr, no_expr, some_expr, PlainExprs, no_exprs, more_exprs, no_items, more_items, no_keys, more_keys, PlainStmt, inline_stmt, echo_stmt, run_stmt, if_stmt, while_stmt, do_while_stmt, for_stmt, each_stmt, break_stmt, continue_stmt, return_stmt, include_stmt, quit_stmt, PlainStmts, no_stmts, more_stmts, PlainArms, no_arms, more_arms, PlainParam, PlainFile}
use Rattle.script_grammar.specs.declared.keyword.Keyword.{Keyword}
use Rattle.script_grammar.specs.declared.keyword.Keyword.TheVariants as word
use Rattle.script_grammar.specs.declared.operator.Level.{Level}
use Rattle.script_grammar.specs.declared.operator.Operator.{Operator}
use Rattle.script_grammar.specs.declared.operator.Operator.TheVariants as operator
use Rattle.script_grammar.specs.declared.operator.Prefix.{Prefix}
use Rattle.script_grammar.specs.declared.operator.Prefix.TheVariants as prefix
use Rattle.script_grammar.specs.Terminals.{keyword_of, same_bytes}
use Rattle.script_grammar.specs.Operators.{binary_operator, prefix_operator, update_sign, step_sign}
use Rattle.script_grammar.specs.Expressions.{constant_of, is_escape, part_trees, prefix_tree, operator_tree}
use Rattle.script_grammar.specs.Statements.{printed, is_include}
use Rattle.php_grammar.specs.declared.actions.Action.{Action}
use Rattle.php_grammar.specs.declared.actions.Action.TheVariants as action
use Rattle.php_grammar.specs.declared.actions.TheConstants.{ACTIONS}
use Rattle.php_trees.specs.Values.{Spelling, digits, quoted, literal, bracketed, chain, choice, loose, usual, Argument, given, quotes_flag, Value, leaf, absent, expr, place, quotes, printing, including, quitting, exprs, arguments, items, stmts, branch, params, function, file, exprs_and, items_and, path_and, stmts_and, at, whole_of, operand_of, subject_of, exprs_of, condition_of, argument_of, arguments_of, stmts_of, branch_of, params_of, file_of, variable_of, name_of_token, sign_of}

-- what is made of two values, where both are there
abbrev pub of_two : {A : Type 0} {B : Type 0} {C : Type 0} → (A → B → C) → Option A → Option B → Option C
of_two f None b = None
of_two f (Some a) b = option_map (f a) b

-- the same of three
abbrev pub of_three : {A : Type 0} {B : Type 0} {C : Type 0} {D : Type 0} → (A → B → C → D) → Option A → Option B → Option C → Option D
of_three f None b c = None
of_three f (Some a) b c = of_two (f a) b c

-- a part that is there is asked for one more
abbrev pub and_then : {A : Type 0} {B : Type 0} → Option A → (A → Option B) → Option B
and_then None f = None
and_then (Some a) f = f a

-- one statement
abbrev pub one_stmt : PlainStmt → Value
one_stmt s = stmts (more_stmts s no_stmts)

-- Statements.

-- a whole expression before `;`
abbrev pub run_of : Value → Option Value
run_of (printing e) = Some (one_stmt (echo_stmt (more_exprs e no_exprs)))
run_of (including t) = Some (one_stmt (include_stmt t))
run_of (quitting e) = Some (one_stmt (quit_stmt e))
run_of v = option_map (λ e. one_stmt (run_stmt e)) (whole_of v)

-- a condition and its statements before further arms
abbrev pub armed : PlainExpr → PlainStmts → PlainArms × PlainStmts → Value
armed e ss rest = branch (more_arms e ss rest.0) rest.1

-- the same where no arm can follow
abbrev pub armed_whole : PlainExpr → PlainStmts → PlainArms × PlainStmts → Value
armed_whole e ss rest = one_stmt (if_stmt (more_arms e ss rest.0) rest.1)

-- behind `else`: an `if` in the form with words is one more arm
abbrev pub other_of : Value → Option Value
other_of (branch arms others) = Some (branch arms others)
other_of v = option_map (branch no_arms) (stmts_of v)

-- a `foreach` by its array, its variables and its body
abbrev pub each_of : Option PlainExpr → Option (Option (List ℕ)) → Option (List ℕ) → Option PlainStmts → Option Value
each_of e k None ss = None
each_of e k (Some x) ss = of_three (λ f key body. one_stmt (each_stmt f key x body)) e k ss

-- a `for` by what begins it, its condition, what ends each turn, and its body
abbrev pub for_of : Option PlainExprs → Option MaybeExpr → Option PlainExprs → Option PlainStmts → Option Value
for_of None c es ss = None
for_of (Some begin) c es ss = of_three (λ e next body. one_stmt (for_stmt begin e next body)) c es ss

-- a statement by an inline text
abbrev pub inline_of : Value → Option Value
inline_of (leaf (inline t)) = Some (one_stmt (inline_stmt t))
inline_of _ = None

-- Functions and files.

-- a name that is no keyword of the language
abbrev pub free_name : Option Keyword → List ℕ → Option (List ℕ)
free_name None w = Some (str_to_ascii_lowercase w)
free_name (Some k) w = None

-- a function's name is kept in lower case
abbrev pub function_name : Value → Option (List ℕ)
function_name v = and_then (name_of_token v) (λ w. free_name (keyword_of w) w)

-- a function by its name, parameters and statements
abbrev pub function_of : List ℕ → List PlainParam → PlainStmts → Value
function_of f ps ss = function (record { name_of = f; params_of = ps; body_of = ss })

-- the default of a parameter, which is a literal, if it has one
abbrev pub default_of_value : Value → Option MaybeExpr
default_of_value absent = Some no_expr
default_of_value (expr digits e) = Some (some_expr e)
default_of_value (expr quoted e) = Some (some_expr e)
default_of_value (expr literal e) = Some (some_expr e)
default_of_value _ = None

-- a parameter by its name and default
abbrev pub parameter_of : List ℕ → MaybeExpr → Value
parameter_of x e = params (record { name_of = x; default_of = e } ∷ [])

-- statements of a file outside functions, one behind those before
abbrev pub part_and : PlainFile → PlainStmts → Value
part_and f ss = file (record { body_of = stmts_and f.body_of ss; functions_of = f.functions_of })

-- a function of a file, behind those before
abbrev pub function_and : Option PlainFile → Value → Option Value
function_and (Some f) (function g) = Some (file (record { body_of = f.body_of; functions_of = f.functions_of ++ g ∷ [] }))
function_and f v = None

-- Expressions.

-- an operand behind a chain of `.`, or behind another operand
abbrev pub joined : Value → PlainExpr → PlainExpr → Value
joined (expr chain (join_expr es)) a b = expr chain (join_expr (exprs_and es (more_exprs b no_exprs)))
joined v a b = expr chain (join_expr (more_exprs a (more_exprs b no_exprs)))

-- two operands by an operator between them
abbrev pub operated : Operator → Value → PlainExpr → PlainExpr → Value
operated operator.Join v a b = joined v a b
operated o v a b = expr usual (operator_tree o a b)

-- two operands by the operator of a sign
abbrev pub operate : Option (Level × Operator) → Value → Value → Option Value
operate None v w = None
operate (Some o) v w = of_two (operated o.1 v) (operand_of v) (operand_of w)

-- an operand by an operator before it; a negated integer may be a default
abbrev pub prefixed : Prefix → Value → Option Value
prefixed prefix.Neg (expr digits e) = Some (expr literal (prefix_tree prefix.Neg e))
prefixed p v = option_map (λ e. expr usual (prefix_tree p e)) (operand_of v)

-- what is written, by its variable and keys
abbrev pub assigned : Value → Option PlainExpr → Option Value
assigned (place x ks) e = option_map (λ f. expr loose (assign_expr x ks f)) e
assigned v e = None

-- the same where the old value is read first
abbrev pub updated : Value → Option Sign → Option PlainExpr → Option Value
updated (place x ks) s e = of_two (λ u f. expr loose (update_expr u x ks f)) (and_then s update_sign) e
updated v s e = None

-- `++` or `--` of a variable
abbrev pub stepped : Bool → Value → Value → Option Value
stepped before v s = of_two (λ x up. expr usual (step_expr x up before)) (variable_of v) (and_then (sign_of s) step_sign)

-- by `?:`
abbrev pub choosing : PlainExpr → MaybeExpr → PlainExpr → Value
choosing a m b = expr choice (choice_expr a m b)

-- a member by a key
abbrev pub member_of : Value → PlainExpr → Option Value
member_of (place x ks) k = Some (place x (path_and ks (more_keys (some_expr k) no_keys)))
member_of (expr s e) k = Some (expr usual (member_expr e k))
member_of _ k = None

-- a place for a new member
abbrev pub open_member_of : Value → Option Value
open_member_of (place x ks) = Some (place x (path_and ks (more_keys no_expr no_keys)))
open_member_of _ = None

-- the expressions of arguments, if all are
abbrev pub given_exprs : List Argument → Option PlainExprs
given_exprs [] = Some no_exprs
given_exprs (given s e ∷ gs) = option_map (more_exprs e) (given_exprs gs)
given_exprs (quotes_flag ∷ gs) = None

-- `htmlspecialchars` may have two more arguments that say what is so anyway: `ENT_QUOTES` and a text that is UTF-8 in any case
abbrev pub escaped_expr : List Argument → Option PlainExprs
escaped_expr (given s e ∷ quotes_flag ∷ []) = Some (more_exprs e no_exprs)
escaped_expr (given s e ∷ quotes_flag ∷ given quoted (text_expr t) ∷ []) = if str_eq_ignore_ascii_case t (codes "UTF-8") then Some (more_exprs e no_exprs) else None
escaped_expr gs = given_exprs gs

-- a call of a function
abbrev pub called : List ℕ → List Argument → Option Value
called f gs = option_map (λ es. expr usual (call_expr f es)) (if is_escape f then escaped_expr gs else given_exprs gs)

-- a text, as an include names it
abbrev pub path_text : Value → Option (List ℕ)
path_text (expr quoted (text_expr t)) = Some t
path_text (expr bracketed (text_expr t)) = Some t
path_text _ = None

-- an include by its word and its text
abbrev pub include_of : Option Keyword → Value → Option Value
include_of None v = None
include_of (Some k) v = if is_include k then option_map including (path_text v) else None

-- `true`, `false` and `null` may be defaults, the other constants not
abbrev pub constant_spelling : Keyword → Spelling
constant_spelling word.True = literal
constant_spelling word.False = literal
constant_spelling word.Null = literal
constant_spelling _ = usual

-- a constant by its name
abbrev pub constant_value : Option Keyword → List ℕ → Option Value
constant_value (Some k) w = option_map (expr (constant_spelling k)) (constant_of k)
constant_value None w = if same_bytes w (codes "ENT_QUOTES") then Some quotes else None

-- an expression in brackets
abbrev pub bracket_of : Value → Option Value
bracket_of (expr quoted e) = Some (expr bracketed e)
bracket_of v = option_map (expr usual) (whole_of v)

-- the value of a literal token
abbrev pub literal_of : Value → Option Value
literal_of (leaf (integer z)) = Some (expr digits (int_expr z))
literal_of (leaf (text t)) = Some (expr quoted (text_expr t))
literal_of (leaf (template ps)) = Some (expr usual (join_expr (part_trees ps)))
literal_of _ = None

-- one more item of an array; one is left out at the end alone
abbrev pub next_items : Value → Value → Option Value
next_items (items is false) (items js hole) = Some (items (items_and is js) hole)
next_items v w = None

-- an array by its items
abbrev pub array_of : Value → Option Value
array_of (items is hole) = Some (expr usual (array_expr is))
array_of _ = None

-- what a rule makes, by what its text says
abbrev pub act_by : Action → List Value → Option Value
act_by action.Outside vs = None
act_by action.Pass vs = Some (at 0 vs)
act_by action.Second vs = Some (at 1 vs)
act_by action.Absent vs = Some absent
act_by action.NoParts vs = Some (file (record { body_of = no_stmts; functions_of = [] }))
act_by action.NextPart vs = of_two part_and (file_of (at 0 vs)) (stmts_of (at 1 vs))
act_by action.NextFunction vs = function_and (file_of (at 0 vs)) (at 1 vs)
act_by action.NoStatements vs = Some (stmts no_stmts)
act_by action.NextStatement vs = of_two (λ ss ts. stmts (stmts_and ss ts)) (stmts_of (at 0 vs)) (stmts_of (at 1 vs))
act_by action.Block vs = option_map stmts (stmts_of (at 1 vs))
act_by action.Inline vs = inline_of (at 0 vs)
act_by action.Echo vs = option_map (λ es. one_stmt (echo_stmt es)) (exprs_of (at 1 vs))
act_by action.Run vs = run_of (at 0 vs)
act_by action.EmptyStatement vs = Some (stmts no_stmts)
act_by action.Branch vs = of_three armed (whole_of (at 2 vs)) (stmts_of (at 4 vs)) (branch_of (at 5 vs))
act_by action.ColonBranch vs = of_three armed_whole (whole_of (at 2 vs)) (stmts_of (at 5 vs)) (branch_of (at 6 vs))
act_by action.ColonArm vs = of_three armed (whole_of (at 2 vs)) (stmts_of (at 5 vs)) (branch_of (at 6 vs))
act_by action.NoRest vs = Some (branch no_arms no_stmts)
act_by action.Other vs = other_of (at 1 vs)
act_by action.ColonOther vs = option_map (branch no_arms) (stmts_of (at 2 vs))
act_by action.WhileLoop vs = of_two (λ e ss. one_stmt (while_stmt e ss)) (whole_of (at 2 vs)) (stmts_of (at 4 vs))
act_by action.ColonWhileLoop vs = of_two (λ e ss. one_stmt (while_stmt e ss)) (whole_of (at 2 vs)) (stmts_of (at 5 vs))
act_by action.DoLoop vs = of_two (λ ss e. one_stmt (do_while_stmt ss e)) (stmts_of (at 1 vs)) (whole_of (at 4 vs))
act_by action.ForLoop vs = for_of (exprs_of (at 2 vs)) (condition_of (at 4 vs)) (exprs_of (at 6 vs)) (stmts_of (at 8 vs))
act_by action.EachLoop vs = each_of (whole_of (at 2 vs)) (Some None) (variable_of (at 4 vs)) (stmts_of (at 6 vs))
act_by action.ColonEachLoop vs = each_of (whole_of (at 2 vs)) (Some None) (variable_of (at 4 vs)) (stmts_of (at 7 vs))
act_by action.KeyedEachLoop vs = each_of (whole_of (at 2 vs)) (option_map Some (variable_of (at 4 vs))) (variable_of (at 6 vs)) (stmts_of (at 8 vs))
act_by action.Leave vs = Some (one_stmt break_stmt)
act_by action.Turn vs = Some (one_stmt continue_stmt)
act_by action.ReturnNothing vs = Some (one_stmt (return_stmt no_expr))
act_by action.ReturnValue vs = option_map (λ e. one_stmt (return_stmt (some_expr e))) (whole_of (at 1 vs))
act_by action.Unset vs = option_map (λ es. one_stmt (run_stmt (call_expr (codes "unset") es))) (exprs_of (at 2 vs))
act_by action.Function vs = of_three function_of (function_name (at 2 vs)) (params_of (at 4 vs)) (stmts_of (at 8 vs))
act_by action.NoParameters vs = Some (params [])
act_by action.NextParameter vs = of_two (λ ps qs. params (ps ++ qs)) (params_of (at 0 vs)) (params_of (at 2 vs))
act_by action.Parameter vs = of_two parameter_of (variable_of (at 3 vs)) (default_of_value (at 4 vs))
act_by action.NoExpressions vs = Some (exprs no_exprs)
act_by action.FirstExpression vs = option_map (λ e. exprs (more_exprs e no_exprs)) (whole_of (at 0 vs))
act_by action.NextExpression vs = of_two (λ es e. exprs (exprs_and es (more_exprs e no_exprs))) (exprs_of (at 0 vs)) (whole_of (at 2 vs))
act_by action.NoArguments vs = Some (arguments [])
act_by action.FirstArgument vs = option_map (λ g. arguments (g ∷ [])) (argument_of (at 0 vs))
act_by action.NextArgument vs = of_two (λ gs g. arguments (gs ++ g ∷ [])) (arguments_of (at 0 vs)) (argument_of (at 2 vs))
act_by action.Hole vs = Some (items no_items true)
act_by action.Element vs = option_map (λ e. items (more_items no_expr e no_items) false) (whole_of (at 0 vs))
act_by action.KeyedElement vs = of_two (λ k e. items (more_items (some_expr k) e no_items) false) (whole_of (at 0 vs)) (whole_of (at 2 vs))
act_by action.NextElement vs = next_items (at 0 vs) (at 2 vs)
act_by action.Array vs = array_of (at 1 vs)
act_by action.NamedArray vs = array_of (at 2 vs)
act_by action.Literal vs = literal_of (at 0 vs)
act_by action.Constant vs = and_then (name_of_token (at 0 vs)) (λ w. constant_value (keyword_of w) w)
act_by action.Bracket vs = bracket_of (at 1 vs)
act_by action.Variable vs = option_map (λ x. place x no_keys) (variable_of (at 0 vs))
act_by action.Member vs = and_then (whole_of (at 2 vs)) (member_of (at 0 vs))
act_by action.OpenMember vs = open_member_of (at 0 vs)
act_by action.Call vs = and_then (function_name (at 0 vs)) (λ f. and_then (arguments_of (at 1 vs)) (called f))
act_by action.Assign vs = assigned (at 0 vs) (whole_of (at 2 vs))
act_by action.Update vs = updated (at 0 vs) (sign_of (at 1 vs)) (whole_of (at 2 vs))
act_by action.StepAfter vs = stepped false (at 0 vs) (at 1 vs)
act_by action.StepBefore vs = stepped true (at 1 vs) (at 0 vs)
act_by action.Operate vs = operate (and_then (sign_of (at 1 vs)) binary_operator) (at 0 vs) (at 2 vs)
act_by action.Prefix vs = and_then (and_then (sign_of (at 0 vs)) prefix_operator) (λ p. prefixed p (at 1 vs))
act_by action.Coalesce vs = of_two (λ a b. expr usual (coalesce_expr a b)) (operand_of (at 0 vs)) (operand_of (at 2 vs))
act_by action.Choice vs = of_three (λ a m b. choosing a (some_expr m) b) (subject_of (at 0 vs)) (whole_of (at 2 vs)) (operand_of (at 4 vs))
act_by action.ShortChoice vs = of_two (λ a b. choosing a no_expr b) (subject_of (at 0 vs)) (operand_of (at 3 vs))
act_by action.Isset vs = option_map (λ es. expr usual (isset_expr es)) (exprs_of (at 2 vs))
act_by action.Empty vs = option_map (λ e. expr usual (empty_expr e)) (whole_of (at 2 vs))
act_by action.Eval vs = option_map (λ e. expr usual (call_expr (codes "eval") (more_exprs e no_exprs))) (whole_of (at 2 vs))
act_by action.Print vs = option_map printing (whole_of (at 1 vs))
act_by action.Include vs = and_then (name_of_token (at 0 vs)) (λ w. include_of (keyword_of w) (at 1 vs))
act_by action.Exit vs = Some (quitting no_expr)
act_by action.ExitValue vs = option_map (λ e. quitting (printed e)) (whole_of (at 2 vs))

-- what the rule of this number makes
abbrev pub act : ℕ → List Value → Option Value
act p vs = act_by (slice_index_or ACTIONS p action.Outside) vs
