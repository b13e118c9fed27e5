-- Each function and each file is read, with its actions.
use Rattle.std.proofs.Common.{◌≡◌, ℕ, ◌<◌, true, false, List, [], ◌∷◌, length, Some, refl, arith}
use Rattle.php_syntax.specs.declared.token.Sign.TheVariants as sign
use Rattle.script_grammar.specs.declared.keyword.Keyword.TheVariants as word
use Rattle.script_grammar.specs.Terminals.{Terminal, variable_terminal, word_terminal, name_terminal, sign_terminal}
use Rattle.script_grammar.specs.Statements.{nearest, LiteralForm, int_literal, negated_literal, text_literal, true_literal, false_literal, null_literal, literal_terminals, literal_tree, ParamForm, param_form, default_form, param_terminals, param_tree, more_params_terminals, params_terminals, FunctionForm, function_form, function_terminals, function_nearest, FileForm, end_of_file, function_part, stmt_part, file_terminals, file_nearest}
use Rattle.php_syntax.specs.Trees.{no_expr, some_expr}
use Rattle.stmt_machine.specs.declared.frame.Focus.TheVariants as focus
use Rattle.stmt_machine.specs.declared.frame.Frame.{Frame}
use Rattle.stmt_machine.specs.declared.frame.Frame.TheVariants as frame
use Rattle.stmt_machine.specs.Actions.{StmtAction, parameter_action, function_action, function_body_action, function_end_action}
use Rattle.stmt_machine.specs.Machine.{moves, move}
use Rattle.stmt_machine.specs.Postfix.{param_actions, params_actions, function_actions, file_actions}
use Rattle.stmt_machine.specs.Reading.{else_next, file_at}
use Rattle.stmt_laws.proofs.Runs.{Goes, steps, ends, whole}
use Rattle.stmt_laws.proofs.Firsts.{stmt_begins, stmt_no_else, function_sends, file_sends}
use Rattle.stmt_laws.proofs.Values.{Expressions}
use Rattle.stmt_laws.proofs.Ahead.{and_left, and_right}
use Rattle.stmt_laws.proofs.Simple.{sent}
use Rattle.stmt_laws.proofs.Statements.{stmt_reads, stmts_reads}

-- a parameter with a default
default_move : (v : List ℕ) (d : LiteralForm) (fs : List Frame) (r : List Terminal) → move focus.Parameter fs (variable_terminal v ∷ sign_terminal sign.Assign ∷ literal_terminals d r) ≡ moves focus.BehindParameter fs r (parameter_action v (some_expr (literal_tree d)) ∷ [])
unfolding move
default_move v (int_literal z) fs r = refl
default_move v (negated_literal z) fs r = refl
default_move v (text_literal t) fs r = refl
default_move v true_literal fs r = refl
default_move v false_literal fs r = refl
default_move v null_literal fs r = refl

default_falls : (d : LiteralForm) (r : List Terminal) → length r < length (literal_terminals d r)
default_falls (int_literal z) r = omega arith
default_falls (negated_literal z) r = omega arith
default_falls (text_literal t) r = omega arith
default_falls true_literal r = omega arith
default_falls false_literal r = omega arith
default_falls null_literal r = omega arith

-- a parameter, before a sign other than `=`
plain_move : (v : List ℕ) (ps : List ParamForm) (fs : List Frame) (r : List Terminal) → move focus.Parameter fs (variable_terminal v ∷ more_params_terminals ps (sign_terminal sign.CloseParen ∷ r)) ≡ moves focus.BehindParameter fs (more_params_terminals ps (sign_terminal sign.CloseParen ∷ r)) (parameter_action v no_expr ∷ [])
unfolding move
plain_move v [] fs r = refl
plain_move v (p ∷ ps) fs r = refl

param_reads : (p : ParamForm) (ps : List ParamForm) (fs : List Frame) (r : List Terminal) (k : List StmtAction) → Goes focus.BehindParameter fs (more_params_terminals ps (sign_terminal sign.CloseParen ∷ r)) k → Goes focus.Parameter fs (param_terminals p (more_params_terminals ps (sign_terminal sign.CloseParen ∷ r))) (param_actions (param_tree p) k)
param_reads (param_form v) ps fs r k goes = steps (plain_move v ps fs r) (omega arith) goes
param_reads (default_form v d) ps fs r k goes =
    let ts = more_params_terminals ps (sign_terminal sign.CloseParen ∷ r)
    in steps (default_move v d fs ts) (let h = default_falls d ts in omega (arith, h)) goes

-- the end of the parameters, with the brace behind it
last_reads : (fs : List Frame) (r : List Terminal) (k : List StmtAction) → Goes focus.Behind (frame.Function ∷ fs) r k → Goes focus.BehindParameter fs (sign_terminal sign.CloseParen ∷ sign_terminal sign.OpenBrace ∷ r) (function_body_action ∷ k)
unfolding move
last_reads fs r k goes = steps refl (omega arith) goes

comma_reads : (fs : List Frame) (r : List Terminal) (k : List StmtAction) → Goes focus.Parameter fs r k → Goes focus.BehindParameter fs (sign_terminal sign.Comma ∷ r) k
unfolding move
comma_reads fs r k goes = steps refl (omega arith) goes

more_params_reads : (ps : List ParamForm) (fs : List Frame) (r : List Terminal) (k : List StmtAction) → Goes focus.Behind (frame.Function ∷ fs) r k → Goes focus.BehindParameter fs (more_params_terminals ps (sign_terminal sign.CloseParen ∷ sign_terminal sign.OpenBrace ∷ r)) (params_actions ps (function_body_action ∷ k))
more_params_reads [] fs r k goes = last_reads fs r k goes
more_params_reads (p ∷ ps) fs r k goes =
    comma_reads fs _ _ (param_reads p ps fs (sign_terminal sign.OpenBrace ∷ r) (params_actions ps (function_body_action ∷ k)) (more_params_reads ps fs r k goes))

-- the parameters of a function
none_reads : (fs : List Frame) (r : List Terminal) (k : List StmtAction) → Goes focus.Behind (frame.Function ∷ fs) r k → Goes focus.Parameters fs (sign_terminal sign.CloseParen ∷ sign_terminal sign.OpenBrace ∷ r) (function_body_action ∷ k)
unfolding move
none_reads fs r k goes = steps refl (omega arith) goes

some_move : (p : ParamForm) (fs : List Frame) (r : List Terminal) → move focus.Parameters fs (param_terminals p r) ≡ moves focus.Parameter fs (param_terminals p r) []
unfolding move
some_move (param_form v) fs r = refl
some_move (default_form v d) fs r = refl

some_reads : (p : ParamForm) (fs : List Frame) (r : List Terminal) (k : List StmtAction) → Goes focus.Parameter fs (param_terminals p r) k → Goes focus.Parameters fs (param_terminals p r) k
some_reads p fs r k goes = steps (some_move p fs r) (omega arith) goes

params_reads : (ps : List ParamForm) (fs : List Frame) (r : List Terminal) (k : List StmtAction) → Goes focus.Behind (frame.Function ∷ fs) r k → Goes focus.Parameters fs (params_terminals ps (sign_terminal sign.CloseParen ∷ sign_terminal sign.OpenBrace ∷ r)) (params_actions ps (function_body_action ∷ k))
params_reads [] fs r k goes = none_reads fs r k goes
params_reads (p ∷ ps) fs r k goes =
    some_reads p fs _ _ (param_reads p ps fs (sign_terminal sign.OpenBrace ∷ r) (params_actions ps (function_body_action ∷ k)) (more_params_reads ps fs r k goes))

-- a function
function_begins : (f : List ℕ) (ts : List Terminal) (acts : List StmtAction) → Goes focus.Parameters [] ts acts → Goes focus.Behind [] (word_terminal word.Function ∷ name_terminal f ∷ sign_terminal sign.OpenParen ∷ ts) (function_action f ∷ acts)
unfolding move
function_begins f ts acts goes = steps refl (omega arith) goes

function_ends : (fs : List Frame) (r : List Terminal) (k : List StmtAction) → Goes focus.Behind fs r k → Goes focus.Behind (frame.Function ∷ fs) (sign_terminal sign.CloseBrace ∷ r) (function_end_action ∷ k)
unfolding move
function_ends fs r k goes = steps refl (omega arith) goes

function_reads : (f : FunctionForm) → Expressions → (r : List Terminal) (k : List StmtAction) → function_nearest f ≡ true → Goes focus.Behind [] r k → Goes focus.Behind [] (function_terminals f r) (function_actions f k)
function_reads (function_form f ps ss) x r k near goes =
    function_begins f _ _ (params_reads ps [] _ _
    (stmts_reads ss x (frame.Function ∷ []) (sign_terminal sign.CloseBrace ∷ r) (function_end_action ∷ k) (function_sends []) near (λ t. refl) (function_ends [] r k goes)))

-- the parts of a file; no part begins with an `else`
part_no_else : (f : FileForm) → else_next (file_terminals f) ≡ false
part_no_else end_of_file = refl
part_no_else (function_part (function_form f ps ss) p) = refl
part_no_else (stmt_part s p) = stmt_no_else _ (stmt_begins s (file_terminals p))

file_reads : (f : FileForm) → Expressions → file_nearest f ≡ true → Goes focus.Behind [] (file_terminals f) (file_actions f)
file_reads end_of_file x near = ends
file_reads (function_part f p) x near =
    function_reads f x (file_terminals p) (file_actions p) (and_left (function_nearest f) _ near) (file_reads p x (and_right (function_nearest f) _ near))
file_reads (stmt_part s p) x near =
    sent [] _ _ (file_sends _ (stmt_begins s (file_terminals p)))
    (stmt_reads s x [] (file_terminals p) (file_actions p) (and_left (nearest s) _ near) (λ t. part_no_else p) (file_reads p x (and_right (nearest s) _ near)))

pub file_read : Expressions → (f : FileForm) → file_nearest f ≡ true → file_at (file_terminals f) ≡ Some (file_actions f)
file_read x f near = whole (file_reads f x near)
