-- The marks of a spellable file can be written.
use Rattle.std.proofs.Common.{◌≡◌, ℕ, true, ◌&&◌, List, [], ◌∷◌, Option, Some, None, refl}
use Rattle.php_syntax.specs.declared.token.Sign.TheVariants as signs
use Rattle.script_grammar.specs.declared.keyword.Keyword.{Keyword}
use Rattle.script_grammar.specs.declared.keyword.Keyword.TheVariants as word
use Rattle.php_syntax.specs.Trees.{PlainExpr, null_expr, flag_expr, int_expr, text_expr, neg_expr, MaybeExpr, no_expr, some_expr, PlainStmt, inline_stmt, echo_stmt, run_stmt, if_stmt, while_stmt, do_while_stmt, for_stmt, each_stmt, break_stmt, continue_stmt, return_stmt, include_stmt, quit_stmt, PlainStmts, no_stmts, more_stmts, PlainArms, no_arms, more_arms, PlainParam, PlainFunction, PlainFile}
use Rattle.spellable.specs.Marks.{Mark, keyword, sign}
use Rattle.spellable.specs.Spellable.{is_name, is_call_name, is_some_exprs, is_maybe_name, is_some_arms, is_printed, expr_spellable, maybe_spellable, exprs_spellable, stmt_spellable, stmts_spellable, arms_spellable, is_literal, is_default, params_spellable, functions_spellable, is_spellable}
use Rattle.php_writer.specs.Written.{expr_marks, maybe_marks, list_marks, condition_marks, argument_marks, variables_marks, stmt_marks, stmts_marks, arms_marks, else_marks, default_marks, param_marks, more_params_marks, params_marks, function_marks, functions_marks, file_marks}
use Rattle.spellable.proofs.Halves.{halves, name_is, call_name_is, IsCallName}
use Rattle.php_writer.proofs.NoCasts.{AllWritable}
use Rattle.php_writer.proofs.Writable.{Keeps, expr_keeps, maybe_keeps, list_keeps, integer_keeps}

variables_keep : (k : Option (List ℕ)) (x : List ℕ) → is_maybe_name k ≡ true → is_name x ≡ true → Keeps (variables_marks k x)
variables_keep None x h n r all = (name_is x n, all)
variables_keep (Some k) x h n r all = (name_is k h, (name_is x n, all))

else_keeps : (ss : PlainStmts) → Keeps (stmts_marks ss) → Keeps (else_marks ss)
unfolding stmt_marks
else_keeps no_stmts keeps r all = all
else_keeps (more_stmts s ss) keeps r all = keeps (sign signs.CloseBrace ∷ r) all

argument_keeps : (e : MaybeExpr) → maybe_spellable e ≡ true → Keeps (argument_marks e)
unfolding expr_spellable
argument_keeps no_expr h r all = all
argument_keeps (some_expr e) h r all = expr_keeps e h (sign signs.CloseParen ∷ r) all

abbrev body : PlainStmts → List Mark → List Mark
body ss r = sign signs.OpenBrace ∷ stmts_marks ss (sign signs.CloseBrace ∷ r)

mutual
  unfolding stmt_marks stmt_spellable

  stmt_keeps : (s : PlainStmt) → stmt_spellable s ≡ true → Keeps (stmt_marks s)
  stmt_keeps (inline_stmt t) h r all = (h, all)
  stmt_keeps (echo_stmt es) h r all = list_keeps es (halves (is_some_exprs es) (exprs_spellable es) h).1 (sign signs.Semicolon ∷ r) all
  stmt_keeps (run_stmt e) h r all = expr_keeps e h (sign signs.Semicolon ∷ r) all
  stmt_keeps (if_stmt a last) h r all =
      let one = halves (is_some_arms a) (arms_spellable a && stmts_spellable last) h
      in let two = halves (arms_spellable a) (stmts_spellable last) one.1
      in arms_keep a two.0 word.If (else_marks last r) (else_keeps last (stmts_keep last two.1) r all)
  stmt_keeps (while_stmt e ss) h r all = let both = halves (expr_spellable e) (stmts_spellable ss) h in expr_keeps e both.0 (sign signs.CloseParen ∷ body ss r) (stmts_keep ss both.1 (sign signs.CloseBrace ∷ r) all)
  stmt_keeps (do_while_stmt ss e) h r all =
      let both = halves (stmts_spellable ss) (expr_spellable e) h
      in stmts_keep ss both.0 (sign signs.CloseBrace ∷ keyword word.While ∷ condition_marks e (sign signs.Semicolon ∷ r)) (expr_keeps e both.1 (sign signs.CloseParen ∷ sign signs.Semicolon ∷ r) all)
  stmt_keeps (for_stmt begin e next ss) h r all =
      let one = halves (exprs_spellable begin) (maybe_spellable e && (exprs_spellable next && stmts_spellable ss)) h
      in let two = halves (maybe_spellable e) (exprs_spellable next && stmts_spellable ss) one.1
      in let three = halves (exprs_spellable next) (stmts_spellable ss) two.1
      in list_keeps begin one.0 (sign signs.Semicolon ∷ maybe_marks e (sign signs.Semicolon ∷ list_marks next (sign signs.CloseParen ∷ body ss r)))
      (maybe_keeps e two.0 (sign signs.Semicolon ∷ list_marks next (sign signs.CloseParen ∷ body ss r))
      (list_keeps next three.0 (sign signs.CloseParen ∷ body ss r) (stmts_keep ss three.1 (sign signs.CloseBrace ∷ r) all)))
  stmt_keeps (each_stmt e k x ss) h r all =
      let one = halves (expr_spellable e) (is_maybe_name k && (is_name x && stmts_spellable ss)) h
      in let two = halves (is_maybe_name k) (is_name x && stmts_spellable ss) one.1
      in let three = halves (is_name x) (stmts_spellable ss) two.1
      in expr_keeps e one.0 (keyword word.As ∷ variables_marks k x (sign signs.CloseParen ∷ body ss r)) (variables_keep k x two.0 three.0 (sign signs.CloseParen ∷ body ss r) (stmts_keep ss three.1 (sign signs.CloseBrace ∷ r) all))
  stmt_keeps break_stmt h r all = all
  stmt_keeps continue_stmt h r all = all
  stmt_keeps (return_stmt e) h r all = maybe_keeps e h (sign signs.Semicolon ∷ r) all
  stmt_keeps (include_stmt t) h r all = all
  stmt_keeps (quit_stmt e) h r all = argument_keeps e (halves (is_printed e) (maybe_spellable e) h).1 (sign signs.Semicolon ∷ r) all

  stmts_keep : (ss : PlainStmts) → stmts_spellable ss ≡ true → Keeps (stmts_marks ss)
  stmts_keep no_stmts h r all = all
  stmts_keep (more_stmts s ss) h r all = let both = halves (stmt_spellable s) (stmts_spellable ss) h in stmt_keeps s both.0 (stmts_marks ss r) (stmts_keep ss both.1 r all)

  arms_keep : (a : PlainArms) → arms_spellable a ≡ true → (k : Keyword) → Keeps (arms_marks a k)
  arms_keep no_arms h k r all = all
  arms_keep (more_arms e ss a) h k r all =
      let one = halves (expr_spellable e) (stmts_spellable ss && arms_spellable a) h
      in let two = halves (stmts_spellable ss) (arms_spellable a) one.1
      in expr_keeps e one.0 (sign signs.CloseParen ∷ body ss (arms_marks a word.ElseIf r)) (stmts_keep ss two.0 (sign signs.CloseBrace ∷ arms_marks a word.ElseIf r) (arms_keep a two.1 word.ElseIf r all))

literal_keeps : (e : PlainExpr) → is_literal e ≡ true → Keeps (expr_marks e)
unfolding expr_marks
literal_keeps null_expr h r all = all
literal_keeps (flag_expr b) h r all = all
literal_keeps (int_expr z) h r all = integer_keeps z h r all
literal_keeps (text_expr t) h r all = all
literal_keeps (neg_expr (int_expr z)) h r all = integer_keeps z h r all
literal_keeps _ h r all = absurd (cc)

default_keeps : (e : MaybeExpr) → is_default e ≡ true → Keeps (default_marks e)
default_keeps no_expr h r all = all
default_keeps (some_expr e) h r all = literal_keeps e h r all

param_keeps : (p : PlainParam) → is_name p.name_of ≡ true → is_default p.default_of ≡ true → Keeps (param_marks p)
param_keeps p n d r all = (name_is p.name_of n, default_keeps p.default_of d r all)

more_params_keep : (ps : List PlainParam) → params_spellable ps ≡ true → Keeps (more_params_marks ps)
more_params_keep [] h r all = all
more_params_keep (p ∷ ps) h r all =
    let one = halves (is_name p.name_of) (is_default p.default_of && params_spellable ps) h
    in let two = halves (is_default p.default_of) (params_spellable ps) one.1
    in param_keeps p one.0 two.0 (more_params_marks ps r) (more_params_keep ps two.1 r all)

params_keep : (ps : List PlainParam) → params_spellable ps ≡ true → Keeps (params_marks ps)
params_keep [] h r all = all
params_keep (p ∷ ps) h r all = more_params_keep (p ∷ ps) h r all

function_keeps : (f : PlainFunction) → IsCallName f.name_of → params_spellable f.params_of ≡ true → stmts_spellable f.body_of ≡ true → Keeps (function_marks f)
function_keeps f is ps ss r all =
    let body_all = stmts_keep f.body_of ss (sign signs.CloseBrace ∷ r) all
    in let behind : List Mark = sign signs.CloseParen ∷ sign signs.OpenBrace ∷ stmts_marks f.body_of (sign signs.CloseBrace ∷ r)
    in (is.is_name, is.no_keyword, (params_marks f.params_of behind, refl), params_keep f.params_of ps behind body_all)

functions_keep : (fs : List PlainFunction) → functions_spellable fs ≡ true → Keeps (functions_marks fs)
functions_keep [] h r all = all
functions_keep (f ∷ fs) h r all =
    let one = halves (is_call_name f.name_of) (params_spellable f.params_of && (stmts_spellable f.body_of && functions_spellable fs)) h
    in let two = halves (params_spellable f.params_of) (stmts_spellable f.body_of && functions_spellable fs) one.1
    in let three = halves (stmts_spellable f.body_of) (functions_spellable fs) two.1
    in function_keeps f (call_name_is f.name_of one.0) two.0 three.0 (functions_marks fs r) (functions_keep fs three.1 r all)

pub file_writable : (t : PlainFile) → is_spellable t ≡ true → AllWritable (file_marks t)
file_writable t h =
    let both = halves (stmts_spellable t.body_of) (functions_spellable t.functions_of) h
    in functions_keep t.functions_of both.1 (stmts_marks t.body_of []) (stmts_keep t.body_of both.0 [] tt)
