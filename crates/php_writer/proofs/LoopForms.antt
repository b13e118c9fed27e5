-- Forms of loops, of the statements that leave a body, and of `include`, from forms of their parts.
use Rattle.std.proofs.Common.{◌≡◌, ◌∙◌, ℕ, false, if◌then◌else◌, List, ◌∷◌, Option, Some, None, refl, ap}
use Rattle.php_syntax.specs.declared.token.Sign.TheVariants as signs
use Rattle.script_grammar.specs.declared.keyword.Keyword.TheVariants as word
use Rattle.php_syntax.specs.Trees.{PlainExpr, MaybeExpr, no_expr, some_expr, PlainExprs, while_stmt, do_while_stmt, for_stmt, each_stmt, break_stmt, continue_stmt, return_stmt, include_stmt, quit_stmt, PlainStmts, no_stmts, more_stmts}
use Rattle.script_grammar.specs.Terminals.{Terminal, word_terminal, sign_terminal}
use Rattle.script_grammar.specs.Expressions.{expr_terminals, expr_tree, list_terminals, list_tree}
use Rattle.script_grammar.specs.Statements.{MaybeForm, nothing_form, something_form, maybe_terminals, maybe_tree, VariablesForm, value_form, key_value_form, variables_terminals, key_variable, value_variable, block_form, while_form, do_form, for_form, each_form, break_form, continue_form, return_form, include_form, exit_form, exit_parens_form, is_status, printed, stmt_body, stmt_terminals, stmt_trees, stmts_trees, nearest}
use Rattle.spellable.specs.Marks.{Mark, keyword, text, sign, marked}
use Rattle.php_writer.specs.Written.{expr_marks, maybe_marks, list_marks, condition_marks, variables_marks, stmts_marks}
use Rattle.php_writer.proofs.FormPlaces.{Formed, IsExpr}
use Rattle.php_writer.proofs.Looseness.{whole}
use Rattle.php_writer.proofs.ListForms.{IsMaybe, IsList}
use Rattle.php_writer.proofs.StmtForms.{IsStmt, IsStmts, single, body_marks, body_spelled, condition_spelled, arm_spelled}

pub while_said : (e : PlainExpr) (ss : PlainStmts) → IsExpr e (expr_marks e) → IsStmts ss (stmts_marks ss) → IsStmt (while_stmt e ss) (λ r. keyword word.While ∷ condition_marks e (body_marks ss r))
unfolding stmt_trees stmt_terminals nearest
while_said e ss f g = single (while_form f.form (stmt_body (block_form g.form))) (while_stmt e ss) (λ r. keyword word.While ∷ condition_marks e (body_marks ss r))
    (λ r. ap (λ x. more_stmts (while_stmt x (stmts_trees g.form no_stmts)) r) f.made ∙ ap (λ x. more_stmts (while_stmt e x) r) g.made)
    g.near
    (λ r. ap (λ (ts : List Terminal). word_terminal word.While ∷ ts) (arm_spelled e ss f g r))

pub do_said : (ss : PlainStmts) (e : PlainExpr) → IsStmts ss (stmts_marks ss) → IsExpr e (expr_marks e)
    → IsStmt (do_while_stmt ss e) (λ r. keyword word.Do ∷ body_marks ss (keyword word.While ∷ condition_marks e (sign signs.Semicolon ∷ r)))
unfolding stmt_trees stmt_terminals nearest
do_said ss e g f = single (do_form (block_form g.form) f.form) (do_while_stmt ss e) (λ r. keyword word.Do ∷ body_marks ss (keyword word.While ∷ condition_marks e (sign signs.Semicolon ∷ r)))
    (λ r. ap (λ x. more_stmts (do_while_stmt x (expr_tree f.form)) r) g.made ∙ ap (λ x. more_stmts (do_while_stmt ss x) r) f.made)
    g.near
    (λ r. ap (λ (ts : List Terminal). word_terminal word.Do ∷ stmt_terminals (block_form g.form) (word_terminal word.While ∷ ts)) (condition_spelled e f (sign signs.Semicolon ∷ r))
    ∙ ap (λ (ts : List Terminal). word_terminal word.Do ∷ ts) (body_spelled ss g (keyword word.While ∷ condition_marks e (sign signs.Semicolon ∷ r))))

-- what may be left out
abbrev pub IsMaybeForm : MaybeExpr → Type 0
IsMaybeForm e = Formed MaybeForm MaybeExpr maybe_tree maybe_terminals e (maybe_marks e)

pub maybe_formed : (e : MaybeExpr) → IsMaybe e → IsMaybeForm e
unfolding expr_marks
maybe_formed no_expr own = record { form = nothing_form; made = refl; spelled = λ r. refl }
maybe_formed (some_expr e) own = of (whole e own)
  where
    of : IsExpr e (expr_marks e) → IsMaybeForm (some_expr e)
    of f = record { form = something_form f.form; made = ap some_expr f.made; spelled = f.spelled }

pub for_said : (begin : PlainExprs) (e : MaybeExpr) (next : PlainExprs) (ss : PlainStmts) → IsList begin → IsMaybeForm e → IsList next → IsStmts ss (stmts_marks ss)
    → IsStmt (for_stmt begin e next ss) (λ r. keyword word.For ∷ sign signs.OpenParen ∷ list_marks begin (sign signs.Semicolon ∷ maybe_marks e (sign signs.Semicolon ∷ list_marks next (sign signs.CloseParen ∷ body_marks ss r))))
unfolding stmt_trees stmt_terminals nearest
for_said begin e next ss b f n g = single (for_form b.form f.form n.form (stmt_body (block_form g.form))) (for_stmt begin e next ss)
    (λ r. keyword word.For ∷ sign signs.OpenParen ∷ list_marks begin (sign signs.Semicolon ∷ maybe_marks e (sign signs.Semicolon ∷ list_marks next (sign signs.CloseParen ∷ body_marks ss r))))
    (λ r. ap (λ x. more_stmts (for_stmt x (maybe_tree f.form) (list_tree n.form) (stmts_trees g.form no_stmts)) r) b.made
    ∙ ap (λ x. more_stmts (for_stmt begin x (list_tree n.form) (stmts_trees g.form no_stmts)) r) f.made
    ∙ ap (λ x. more_stmts (for_stmt begin e x (stmts_trees g.form no_stmts)) r) n.made
    ∙ ap (λ x. more_stmts (for_stmt begin e next x) r) g.made)
    g.near
    (λ r. ap (λ (ts : List Terminal). word_terminal word.For ∷ sign_terminal signs.OpenParen ∷ list_terminals b.form (sign_terminal signs.Semicolon ∷ maybe_terminals f.form (sign_terminal signs.Semicolon ∷ list_terminals n.form (sign_terminal signs.CloseParen ∷ ts)))) (body_spelled ss g r)
    ∙ ap (λ (ts : List Terminal). word_terminal word.For ∷ sign_terminal signs.OpenParen ∷ list_terminals b.form (sign_terminal signs.Semicolon ∷ maybe_terminals f.form (sign_terminal signs.Semicolon ∷ ts))) (n.spelled (sign signs.CloseParen ∷ body_marks ss r))
    ∙ ap (λ (ts : List Terminal). word_terminal word.For ∷ sign_terminal signs.OpenParen ∷ list_terminals b.form (sign_terminal signs.Semicolon ∷ ts)) (f.spelled (sign signs.Semicolon ∷ list_marks next (sign signs.CloseParen ∷ body_marks ss r)))
    ∙ ap (λ (ts : List Terminal). word_terminal word.For ∷ sign_terminal signs.OpenParen ∷ ts) (b.spelled (sign signs.Semicolon ∷ maybe_marks e (sign signs.Semicolon ∷ list_marks next (sign signs.CloseParen ∷ body_marks ss r)))))

-- the variables of a `foreach`
record IsVariables (k : Option (List ℕ)) (x : List ℕ) : Type 0 where
  form : VariablesForm
  key : key_variable form ≡ k
  value : value_variable form ≡ x
  spelled : (r : List Mark) → variables_terminals form (marked r) ≡ marked (variables_marks k x r)

variables_said : (k : Option (List ℕ)) (x : List ℕ) → IsVariables k x
variables_said None x = record { form = value_form x; key = refl; value = refl; spelled = λ r. refl }
variables_said (Some k) x = record { form = key_value_form k x; key = refl; value = refl; spelled = λ r. refl }

each_of : (e : PlainExpr) (k : Option (List ℕ)) (x : List ℕ) (ss : PlainStmts) → IsExpr e (expr_marks e) → IsVariables k x → IsStmts ss (stmts_marks ss)
    → IsStmt (each_stmt e k x ss) (λ r. keyword word.Foreach ∷ sign signs.OpenParen ∷ expr_marks e (keyword word.As ∷ variables_marks k x (sign signs.CloseParen ∷ body_marks ss r)))
unfolding stmt_trees stmt_terminals nearest
each_of e k x ss f v g = single (each_form f.form v.form (stmt_body (block_form g.form))) (each_stmt e k x ss)
    (λ r. keyword word.Foreach ∷ sign signs.OpenParen ∷ expr_marks e (keyword word.As ∷ variables_marks k x (sign signs.CloseParen ∷ body_marks ss r)))
    (λ r. ap (λ y. more_stmts (each_stmt y (key_variable v.form) (value_variable v.form) (stmts_trees g.form no_stmts)) r) f.made
    ∙ ap (λ y. more_stmts (each_stmt e y (value_variable v.form) (stmts_trees g.form no_stmts)) r) v.key
    ∙ ap (λ y. more_stmts (each_stmt e k y (stmts_trees g.form no_stmts)) r) v.value
    ∙ ap (λ y. more_stmts (each_stmt e k x y) r) g.made)
    g.near
    (λ r. ap (λ (ts : List Terminal). word_terminal word.Foreach ∷ sign_terminal signs.OpenParen ∷ expr_terminals f.form (word_terminal word.As ∷ variables_terminals v.form (sign_terminal signs.CloseParen ∷ ts))) (body_spelled ss g r)
    ∙ ap (λ (ts : List Terminal). word_terminal word.Foreach ∷ sign_terminal signs.OpenParen ∷ expr_terminals f.form (word_terminal word.As ∷ ts)) (v.spelled (sign signs.CloseParen ∷ body_marks ss r))
    ∙ ap (λ (ts : List Terminal). word_terminal word.Foreach ∷ sign_terminal signs.OpenParen ∷ ts) (f.spelled (keyword word.As ∷ variables_marks k x (sign signs.CloseParen ∷ body_marks ss r))))

pub each_said : (e : PlainExpr) (k : Option (List ℕ)) (x : List ℕ) (ss : PlainStmts) → IsExpr e (expr_marks e) → IsStmts ss (stmts_marks ss)
    → IsStmt (each_stmt e k x ss) (λ r. keyword word.Foreach ∷ sign signs.OpenParen ∷ expr_marks e (keyword word.As ∷ variables_marks k x (sign signs.CloseParen ∷ body_marks ss r)))
each_said e k x ss f g = each_of e k x ss f (variables_said k x) g

pub break_said : IsStmt break_stmt (λ r. keyword word.Break ∷ sign signs.Semicolon ∷ r)
unfolding stmt_trees stmt_terminals nearest
break_said = single break_form break_stmt (λ r. keyword word.Break ∷ sign signs.Semicolon ∷ r) (λ r. refl) refl (λ r. refl)

pub continue_said : IsStmt continue_stmt (λ r. keyword word.Continue ∷ sign signs.Semicolon ∷ r)
unfolding stmt_trees stmt_terminals nearest
continue_said = single continue_form continue_stmt (λ r. keyword word.Continue ∷ sign signs.Semicolon ∷ r) (λ r. refl) refl (λ r. refl)

pub return_said : (e : MaybeExpr) → IsMaybeForm e → IsStmt (return_stmt e) (λ r. keyword word.Return ∷ maybe_marks e (sign signs.Semicolon ∷ r))
unfolding stmt_trees stmt_terminals nearest
return_said e f = single (return_form f.form) (return_stmt e) (λ r. keyword word.Return ∷ maybe_marks e (sign signs.Semicolon ∷ r)) (λ r. ap (λ x. more_stmts (return_stmt x) r) f.made) refl
    (λ r. ap (λ (ts : List Terminal). word_terminal word.Return ∷ ts) (f.spelled (sign signs.Semicolon ∷ r)))

pub include_said : (t : List ℕ) → IsStmt (include_stmt t) (λ r. keyword word.Include ∷ text t ∷ sign signs.Semicolon ∷ r)
unfolding stmt_trees stmt_terminals nearest
include_said t = single (include_form word.Include refl t) (include_stmt t) (λ r. keyword word.Include ∷ text t ∷ sign signs.Semicolon ∷ r) (λ r. refl) refl (λ r. refl)

pub quit_nothing : IsStmt (quit_stmt no_expr) (λ r. keyword word.Exit ∷ sign signs.Semicolon ∷ r)
unfolding stmt_trees stmt_terminals nearest
quit_nothing = single exit_form (quit_stmt no_expr) (λ r. keyword word.Exit ∷ sign signs.Semicolon ∷ r) (λ r. refl) refl (λ r. refl)

pub quit_value : (e : PlainExpr) → is_status e ≡ false → IsExpr e (expr_marks e) → IsStmt (quit_stmt (some_expr e)) (λ r. keyword word.Exit ∷ condition_marks e (sign signs.Semicolon ∷ r))
unfolding stmt_trees stmt_terminals nearest
quit_value e n f = single (exit_parens_form (something_form f.form)) (quit_stmt (some_expr e)) (λ r. keyword word.Exit ∷ condition_marks e (sign signs.Semicolon ∷ r))
    (λ r. ap (λ x. more_stmts (quit_stmt (printed x)) r) f.made ∙ ap (λ b. more_stmts (quit_stmt (if b then no_expr else some_expr e)) r) n) refl
    (λ r. ap (λ (ts : List Terminal). word_terminal word.Exit ∷ sign_terminal signs.OpenParen ∷ ts) (f.spelled (sign signs.CloseParen ∷ sign signs.Semicolon ∷ r)))
