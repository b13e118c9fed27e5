-- Each file that is spellable has a form, spelled by its marks.
use Rattle.std.proofs.Common.{◌≡◌, ◌∙◌, ℕ, pos, negsuc, true, false, ◌&&◌, List, [], ◌∷◌, refl, ap}
use Rattle.php_syntax.specs.declared.token.Sign.TheVariants as signs
use Rattle.script_grammar.specs.declared.keyword.Keyword.TheVariants as word
use Rattle.php_syntax.specs.Trees.{PlainExpr, null_expr, flag_expr, int_expr, text_expr, neg_expr, MaybeExpr, no_expr, some_expr, PlainExprs, no_exprs, more_exprs, PlainStmt, inline_stmt, echo_stmt, run_stmt, if_stmt, while_stmt, do_while_stmt, for_stmt, each_stmt, break_stmt, continue_stmt, return_stmt, include_stmt, quit_stmt, PlainStmts, no_stmts, more_stmts, PlainArms, no_arms, more_arms, PlainParam, PlainFunction, PlainFile}
use Rattle.script_grammar.specs.Terminals.{Terminal, variable_terminal, word_terminal, name_terminal, sign_terminal}
use Rattle.script_grammar.specs.Statements.{StmtsForm, no_stmts_form, more_stmts_form, stmt_terminals, stmts_terminals, stmt_trees, stmts_trees, nearest, all_nearest, is_status, LiteralForm, int_literal, negated_literal, text_literal, true_literal, false_literal, null_literal, literal_terminals, literal_tree, ParamForm, param_form, default_form, param_terminals, param_tree, more_params_terminals, params_terminals, params_trees, FunctionForm, function_form, function_terminals, function_tree, function_nearest, FileForm, end_of_file, function_part, stmt_part, file_terminals, file_stmts, file_functions, file_tree, file_nearest}
use Rattle.spellable.specs.Marks.{Mark, sign, marked}
use Rattle.spellable.specs.Spellable.{is_name, is_call_name, is_some_exprs, is_maybe_name, is_some_arms, is_printed, expr_spellable, maybe_spellable, exprs_spellable, stmt_spellable, stmts_spellable, arms_spellable, is_unsigned_literal, is_literal, is_default, params_spellable, functions_spellable, is_spellable}
use Rattle.php_writer.specs.Written.{int_mark, expr_marks, stmt_marks, stmts_marks, param_marks, more_params_marks, params_marks, function_marks, functions_marks}
use Rattle.spellable.proofs.Halves.{halves, not_so, call_name_is, IsCallName}
use Rattle.php_writer.proofs.FormPlaces.{IsExpr}
use Rattle.php_writer.proofs.Looseness.{whole}
use Rattle.php_writer.proofs.ListForms.{AllOwn, more_formed, list_formed}
use Rattle.php_writer.proofs.ExprForms.{expr_own, maybe_own, exprs_own}
use Rattle.php_writer.proofs.StmtForms.{IsStmt, IsStmts, stmts_none, stmts_more, inline_said, echo_said, run_said, IsArms, arms_none, arms_more, else_said, if_said}
use Rattle.php_writer.proofs.LoopForms.{while_said, do_said, maybe_formed, for_said, each_said, break_said, continue_said, return_said, include_said, quit_nothing, quit_value}

abbrev AllArms : PlainArms → Type 0
AllArms no_arms = Unit {0}
AllArms (more_arms e ss a) = IsExpr e (expr_marks e) × IsStmts ss (stmts_marks ss) × AllArms a

arms_of_all : (a : PlainArms) → AllArms a → IsArms a
arms_of_all no_arms all = arms_none
arms_of_all (more_arms e ss a) all = arms_more e ss a all.0 all.1 (arms_of_all a all.2)

if_own : (a : PlainArms) (last : PlainStmts) → is_some_arms a ≡ true → AllArms a → IsStmts last (stmts_marks last) → IsStmt (if_stmt a last) (stmt_marks (if_stmt a last))
unfolding stmt_marks
if_own no_arms last h all g = absurd (cc)
if_own (more_arms e ss a) last h all g = if_said e ss a last all.0 all.1 (arms_of_all a all.2) (else_said last g)

echo_own : (es : PlainExprs) → is_some_exprs es ≡ true → AllOwn es → IsStmt (echo_stmt es) (stmt_marks (echo_stmt es))
unfolding stmt_marks expr_marks
echo_own no_exprs h all = absurd (cc)
echo_own (more_exprs e es) h all = echo_said e es (whole e all.0) (more_formed es all.1)

of_expr : (e : PlainExpr) → expr_spellable e ≡ true → IsExpr e (expr_marks e)
of_expr e h = whole e (expr_own e h)

quit_own : (e : MaybeExpr) → is_printed e ≡ true → maybe_spellable e ≡ true → IsStmt (quit_stmt e) (stmt_marks (quit_stmt e))
unfolding stmt_marks expr_spellable
quit_own no_expr p h = quit_nothing
quit_own (some_expr e) p h = quit_value e (not_so (is_status e) p) (of_expr e h)

mutual
  unfolding stmt_marks stmt_spellable

  pub stmt_own : (s : PlainStmt) → stmt_spellable s ≡ true → IsStmt s (stmt_marks s)
  stmt_own (inline_stmt t) h = inline_said t
  stmt_own (echo_stmt es) h = let both = halves (is_some_exprs es) (exprs_spellable es) h in echo_own es both.0 (exprs_own es both.1)
  stmt_own (run_stmt e) h = run_said e (of_expr e h)
  stmt_own (if_stmt a last) h =
      let one = halves (is_some_arms a) (arms_spellable a && stmts_spellable last) h
      in let two = halves (arms_spellable a) (stmts_spellable last) one.1
      in if_own a last one.0 (arms_own a two.0) (stmts_own last two.1)
  stmt_own (while_stmt e ss) h = let both = halves (expr_spellable e) (stmts_spellable ss) h in while_said e ss (of_expr e both.0) (stmts_own ss both.1)
  stmt_own (do_while_stmt ss e) h = let both = halves (stmts_spellable ss) (expr_spellable e) h in do_said ss e (stmts_own ss both.0) (of_expr e both.1)
  stmt_own (for_stmt begin e next ss) h =
      let one = halves (exprs_spellable begin) (maybe_spellable e && (exprs_spellable next && stmts_spellable ss)) h
      in let two = halves (maybe_spellable e) (exprs_spellable next && stmts_spellable ss) one.1
      in let three = halves (exprs_spellable next) (stmts_spellable ss) two.1
      in for_said begin e next ss (list_formed begin (exprs_own begin one.0)) (maybe_formed e (maybe_own e two.0)) (list_formed next (exprs_own next three.0)) (stmts_own ss three.1)
  stmt_own (each_stmt e k x ss) h =
      let one = halves (expr_spellable e) (is_maybe_name k && (is_name x && stmts_spellable ss)) h
      in let two = halves (is_maybe_name k) (is_name x && stmts_spellable ss) one.1
      in each_said e k x ss (of_expr e one.0) (stmts_own ss (halves (is_name x) (stmts_spellable ss) two.1).1)
  stmt_own break_stmt h = break_said
  stmt_own continue_stmt h = continue_said
  stmt_own (return_stmt e) h = return_said e (maybe_formed e (maybe_own e h))
  stmt_own (include_stmt t) h = include_said t
  stmt_own (quit_stmt e) h = let both = halves (is_printed e) (maybe_spellable e) h in quit_own e both.0 both.1

  pub stmts_own : (ss : PlainStmts) → stmts_spellable ss ≡ true → IsStmts ss (stmts_marks ss)
  stmts_own no_stmts h = stmts_none
  stmts_own (more_stmts s ss) h = let both = halves (stmt_spellable s) (stmts_spellable ss) h in stmts_more s ss (stmt_own s both.0) (stmts_own ss both.1)

  arms_own : (a : PlainArms) → arms_spellable a ≡ true → AllArms a
  arms_own no_arms h = tt
  arms_own (more_arms e ss a) h =
      let one = halves (expr_spellable e) (stmts_spellable ss && arms_spellable a) h
      in let two = halves (stmts_spellable ss) (arms_spellable a) one.1
      in (of_expr e one.0, stmts_own ss two.0, arms_own a two.1)

-- a literal
record IsLiteral (e : PlainExpr) : Type 0 where
  form : LiteralForm
  made : literal_tree form ≡ e
  spelled : (r : List Mark) → literal_terminals form (marked r) ≡ marked (expr_marks e r)

negated_own : (a : PlainExpr) → is_unsigned_literal a ≡ true → IsLiteral (neg_expr a)
unfolding expr_marks int_mark
negated_own (int_expr (pos n)) h = record { form = negated_literal (pos n); made = refl; spelled = λ r. refl }
negated_own (int_expr (negsuc n)) h = absurd (cc)
negated_own _ h = absurd (cc)

literal_own : (e : PlainExpr) → is_literal e ≡ true → IsLiteral e
unfolding expr_marks int_mark
literal_own null_expr h = record { form = null_literal; made = refl; spelled = λ r. refl }
literal_own (flag_expr true) h = record { form = true_literal; made = refl; spelled = λ r. refl }
literal_own (flag_expr false) h = record { form = false_literal; made = refl; spelled = λ r. refl }
literal_own (int_expr (pos n)) h = record { form = int_literal (pos n); made = refl; spelled = λ r. refl }
literal_own (int_expr (negsuc n)) h = absurd (cc)
literal_own (text_expr t) h = record { form = text_literal t; made = refl; spelled = λ r. refl }
literal_own (neg_expr a) h = negated_own a h
literal_own _ h = absurd (cc)

-- a parameter
record IsParam (p : PlainParam) : Type 0 where
  form : ParamForm
  made : param_tree form ≡ p
  spelled : (r : List Mark) → param_terminals form (marked r) ≡ marked (param_marks p r)

default_own : (x : List ℕ) (e : PlainExpr) → IsLiteral e → IsParam (record { name_of = x; default_of = some_expr e })
default_own x e f = record {
  form = default_form x f.form;
  made = ap (λ (y : PlainExpr). let p : PlainParam = record { name_of = x; default_of = some_expr y } in p) f.made;
  spelled = λ r. ap (λ (ts : List Terminal). variable_terminal x ∷ sign_terminal signs.Assign ∷ ts) (f.spelled r);
}

param_own : (x : List ℕ) (e : MaybeExpr) → is_default e ≡ true → IsParam (record { name_of = x; default_of = e })
param_own x no_expr h = record { form = param_form x; made = refl; spelled = λ r. refl }
param_own x (some_expr e) h = default_own x e (literal_own e h)

record AreParams (ps : List PlainParam) : Type 0 where
  form : List ParamForm
  made : params_trees form ≡ ps
  spelled : (r : List Mark) → params_terminals form (marked r) ≡ marked (params_marks ps r)
  behind : (r : List Mark) → more_params_terminals form (marked r) ≡ marked (more_params_marks ps r)

params_then : (p : PlainParam) (ps : List PlainParam) → IsParam p → AreParams ps → AreParams (p ∷ ps)
params_then p ps f g = record {
  form = f.form ∷ g.form;
  made = ap (λ x. x ∷ params_trees g.form) f.made ∙ ap (λ xs. p ∷ xs) g.made;
  spelled = λ r. ap (param_terminals f.form) (g.behind r) ∙ f.spelled (more_params_marks ps r);
  behind = λ r. ap (λ ts. sign_terminal signs.Comma ∷ param_terminals f.form ts) (g.behind r) ∙ ap (λ (ts : List Terminal). sign_terminal signs.Comma ∷ ts) (f.spelled (more_params_marks ps r));
}

params_own : (ps : List PlainParam) → params_spellable ps ≡ true → AreParams ps
params_own [] h = record { form = []; made = refl; spelled = λ r. refl; behind = λ r. refl }
params_own (p ∷ ps) h =
    let one = halves (is_name p.name_of) (is_default p.default_of && params_spellable ps) h
    in let two = halves (is_default p.default_of) (params_spellable ps) one.1
    in params_then p ps (param_own p.name_of p.default_of two.0) (params_own ps two.1)

-- a function
record IsFunction (f : PlainFunction) : Type 0 where
  form : FunctionForm
  made : function_tree form ≡ f
  near : function_nearest form ≡ true
  spelled : (r : List Mark) → function_terminals form (marked r) ≡ marked (function_marks f r)

function_of : (f : PlainFunction) → IsCallName f.name_of → AreParams f.params_of → IsStmts f.body_of (stmts_marks f.body_of) → IsFunction f
function_of f is ps ss = record {
  form = function_form f.name_of ps.form ss.form;
  made = ap (λ (w : List ℕ). let g : PlainFunction = record { name_of = w; params_of = params_trees ps.form; body_of = stmts_trees ss.form no_stmts } in g) is.lowered
      ∙ ap (λ (p : List PlainParam). let g : PlainFunction = record { name_of = f.name_of; params_of = p; body_of = stmts_trees ss.form no_stmts } in g) ps.made
      ∙ ap (λ (b : PlainStmts). let g : PlainFunction = record { name_of = f.name_of; params_of = f.params_of; body_of = b } in g) ss.made;
  near = ss.near;
  spelled = λ r. ap (λ (ts : List Terminal). word_terminal word.Function ∷ name_terminal f.name_of ∷ sign_terminal signs.OpenParen ∷ params_terminals ps.form (sign_terminal signs.CloseParen ∷ sign_terminal signs.OpenBrace ∷ ts)) (ss.spelled (sign signs.CloseBrace ∷ r))
      ∙ ap (λ (ts : List Terminal). word_terminal word.Function ∷ name_terminal f.name_of ∷ sign_terminal signs.OpenParen ∷ ts) (ps.spelled (sign signs.CloseParen ∷ sign signs.OpenBrace ∷ stmts_marks f.body_of (sign signs.CloseBrace ∷ r)));
}

-- statements of a file
stmts_file : StmtsForm → FileForm
stmts_file no_stmts_form = end_of_file
stmts_file (more_stmts_form s ss) = stmt_part s (stmts_file ss)

stmts_file-terminals : (f : StmtsForm) → file_terminals (stmts_file f) ≡ stmts_terminals f []
unfolding stmt_terminals stmts_file
stmts_file-terminals no_stmts_form = refl
stmts_file-terminals (more_stmts_form s ss) = ap (stmt_terminals s) (stmts_file-terminals ss)

stmts_file-stmts : (f : StmtsForm) → file_stmts (stmts_file f) ≡ stmts_trees f no_stmts
unfolding stmt_trees stmts_file
stmts_file-stmts no_stmts_form = refl
stmts_file-stmts (more_stmts_form s ss) = ap (stmt_trees s) (stmts_file-stmts ss)

stmts_file-functions : (f : StmtsForm) → file_functions (stmts_file f) ≡ []
unfolding stmts_file
stmts_file-functions no_stmts_form = refl
stmts_file-functions (more_stmts_form s ss) = stmts_file-functions ss

stmts_file-near : (f : StmtsForm) → file_nearest (stmts_file f) ≡ all_nearest f
unfolding nearest stmts_file
stmts_file-near no_stmts_form = refl
stmts_file-near (more_stmts_form s ss) = ap (λ b. nearest s && b) (stmts_file-near ss)

-- a file
pub record IsFile (functions : List PlainFunction) (ss : PlainStmts) : Type 0 where
  pub form : FileForm
  pub stmts_made : file_stmts form ≡ ss
  pub functions_made : file_functions form ≡ functions
  pub near : file_nearest form ≡ true
  pub spelled : file_terminals form ≡ marked (functions_marks functions (stmts_marks ss []))

file_of : (ss : PlainStmts) → IsStmts ss (stmts_marks ss) → IsFile [] ss
file_of ss f = record {
  form = stmts_file f.form;
  stmts_made = stmts_file-stmts f.form ∙ f.made;
  functions_made = stmts_file-functions f.form;
  near = stmts_file-near f.form ∙ f.near;
  spelled = stmts_file-terminals f.form ∙ f.spelled [];
}

file_then : (f : PlainFunction) (fs : List PlainFunction) (ss : PlainStmts) → IsFunction f → IsFile fs ss → IsFile (f ∷ fs) ss
file_then f fs ss one file = record {
  form = function_part one.form file.form;
  stmts_made = file.stmts_made;
  functions_made = ap (λ x. x ∷ file_functions file.form) one.made ∙ ap (λ xs. f ∷ xs) file.functions_made;
  near = rw (one.near, file.near) refl;
  spelled = ap (function_terminals one.form) file.spelled ∙ one.spelled (functions_marks fs (stmts_marks ss []));
}

file_own : (fs : List PlainFunction) (ss : PlainStmts) → functions_spellable fs ≡ true → stmts_spellable ss ≡ true → IsFile fs ss
file_own [] ss h k = file_of ss (stmts_own ss k)
file_own (f ∷ fs) ss h k =
    let one = halves (is_call_name f.name_of) (params_spellable f.params_of && (stmts_spellable f.body_of && functions_spellable fs)) h
    in let two = halves (params_spellable f.params_of) (stmts_spellable f.body_of && functions_spellable fs) one.1
    in let three = halves (stmts_spellable f.body_of) (functions_spellable fs) two.1
    in file_then f fs ss (function_of f (call_name_is f.name_of one.0) (params_own f.params_of two.0) (stmts_own f.body_of three.0)) (file_own fs ss three.1 k)

-- a spellable file has a form, spelled by its marks
pub file_formed : (t : PlainFile) → is_spellable t ≡ true → IsFile t.functions_of t.body_of
file_formed t h = let both = halves (stmts_spellable t.body_of) (functions_spellable t.functions_of) h in file_own t.functions_of t.body_of both.1 both.0

pub file_made : (t : PlainFile) (f : IsFile t.functions_of t.body_of) → file_tree f.form ≡ t
file_made t f =
    ap (λ (b : PlainStmts). let g : PlainFile = record { body_of = b; functions_of = file_functions f.form } in g) f.stmts_made
    ∙ ap (λ (fs : List PlainFunction). let g : PlainFile = record { body_of = t.body_of; functions_of = fs } in g) f.functions_made
