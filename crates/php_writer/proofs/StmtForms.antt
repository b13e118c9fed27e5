-- Forms of statements, from forms of their parts. Each body stands in braces, so that each `else` belongs to the nearest `if`.
use Rattle.std.proofs.Common.{◌≡◌, ◌∙◌, ℕ, Bool, true, false, ◌&&◌, List, ◌∷◌, refl, ap}
use Rattle.php_syntax.specs.declared.token.Sign.TheVariants as signs
use Rattle.script_grammar.specs.declared.keyword.Keyword.TheVariants as word
use Rattle.php_syntax.specs.Trees.{PlainExpr, PlainExprs, more_exprs, PlainStmt, inline_stmt, echo_stmt, run_stmt, if_stmt, PlainStmts, no_stmts, more_stmts, PlainArms, no_arms, more_arms}
use Rattle.script_grammar.specs.Terminals.{Terminal, word_terminal, sign_terminal}
use Rattle.script_grammar.specs.Expressions.{expr_terminals, more_exprs_tree}
use Rattle.script_grammar.specs.Statements.{StmtForm, semicolon_form, inline_form, block_form, echo_form, run_form, if_form, StmtsForm, no_stmts_form, more_stmts_form, ArmsForm, no_arms_form, elseif_form, ElseForm, no_else_form, else_form, stmt_terminals, stmts_terminals, arms_terminals, else_terminals, stmt_trees, stmts_trees, arms_tree, else_tree, takes_else, nearest, all_nearest, arms_nearest, else_nearest}
use Rattle.spellable.specs.Marks.{Mark, keyword, sign, outside, marked}
use Rattle.php_writer.specs.Written.{expr_marks, more_marks, condition_marks, stmt_marks, stmts_marks, arms_marks, else_marks}
use Rattle.php_writer.proofs.FormPlaces.{IsExpr}
use Rattle.php_writer.proofs.ListForms.{IsMore}

-- the forms of a statement
pub record IsStmt (s : PlainStmt) (m : List Mark → List Mark) : Type 0 where
  pub form : StmtsForm
  pub made : (r : PlainStmts) → stmts_trees form r ≡ more_stmts s r
  pub near : all_nearest form ≡ true
  pub spelled : (r : List Mark) → stmts_terminals form (marked r) ≡ marked (m r)

-- the forms of statements
pub record IsStmts (ss : PlainStmts) (m : List Mark → List Mark) : Type 0 where
  pub form : StmtsForm
  pub made : stmts_trees form no_stmts ≡ ss
  pub near : all_nearest form ≡ true
  pub spelled : (r : List Mark) → stmts_terminals form (marked r) ≡ marked (m r)

-- a statement of one form
pub single : (f : StmtForm) (s : PlainStmt) (m : List Mark → List Mark) → ((r : PlainStmts) → stmt_trees f r ≡ more_stmts s r) → nearest f ≡ true → ((r : List Mark) → stmt_terminals f (marked r) ≡ marked (m r)) → IsStmt s m
unfolding stmt_trees stmt_terminals nearest
single f s m made near spelled = record { form = more_stmts_form f no_stmts_form; made = made; near = rw near refl; spelled = spelled }

-- forms in a row
both_forms : StmtsForm → StmtsForm → StmtsForm
both_forms no_stmts_form g = g
both_forms (more_stmts_form s ss) g = more_stmts_form s (both_forms ss g)

both_forms-trees : (f g : StmtsForm) (r : PlainStmts) → stmts_trees (both_forms f g) r ≡ stmts_trees f (stmts_trees g r)
unfolding stmt_trees both_forms
both_forms-trees no_stmts_form g r = refl
both_forms-trees (more_stmts_form s ss) g r = ap (stmt_trees s) (both_forms-trees ss g r)

both_forms-terminals : (f g : StmtsForm) (r : List Terminal) → stmts_terminals (both_forms f g) r ≡ stmts_terminals f (stmts_terminals g r)
unfolding stmt_terminals both_forms
both_forms-terminals no_stmts_form g r = refl
both_forms-terminals (more_stmts_form s ss) g r = ap (stmt_terminals s) (both_forms-terminals ss g r)

both_forms-near : (f g : StmtsForm) → all_nearest (both_forms f g) ≡ (all_nearest f && all_nearest g)
unfolding nearest both_forms
both_forms-near no_stmts_form g = refl
both_forms-near (more_stmts_form s ss) g = first (nearest s) (all_nearest ss) (all_nearest g) (all_nearest (both_forms ss g)) (both_forms-near ss g)
  where
    first : (a b c d : Bool) → d ≡ (b && c) → (a && d) ≡ ((a && b) && c)
    first true b c d h = h
    first false b c d h = refl

pub stmts_none : IsStmts no_stmts (stmts_marks no_stmts)
unfolding stmt_trees stmt_terminals nearest stmt_marks
stmts_none = record { form = no_stmts_form; made = refl; near = refl; spelled = λ r. refl }

pub stmts_more : (s : PlainStmt) (ss : PlainStmts) → IsStmt s (stmt_marks s) → IsStmts ss (stmts_marks ss) → IsStmts (more_stmts s ss) (stmts_marks (more_stmts s ss))
unfolding stmt_marks
stmts_more s ss f g = record {
  form = both_forms f.form g.form;
  made = both_forms-trees f.form g.form no_stmts ∙ ap (stmts_trees f.form) g.made ∙ f.made ss;
  near = both_forms-near f.form g.form ∙ rw (f.near, g.near) refl;
  spelled = λ r. both_forms-terminals f.form g.form (marked r) ∙ ap (stmts_terminals f.form) (g.spelled r) ∙ f.spelled (stmts_marks ss r);
}

pub inline_said : (t : List ℕ) → IsStmt (inline_stmt t) (λ r. outside t ∷ r)
unfolding stmt_trees stmt_terminals nearest
inline_said t = record { form = more_stmts_form semicolon_form (more_stmts_form (inline_form t) no_stmts_form); made = λ r. refl; near = refl; spelled = λ r. refl }

pub echo_said : (e : PlainExpr) (es : PlainExprs) → IsExpr e (expr_marks e) → IsMore es → IsStmt (echo_stmt (more_exprs e es)) (λ r. keyword word.Echo ∷ expr_marks e (more_marks es (sign signs.Semicolon ∷ r)))
unfolding stmt_trees stmt_terminals nearest
echo_said e es f g = single (echo_form f.form g.form) (echo_stmt (more_exprs e es)) (λ r. keyword word.Echo ∷ expr_marks e (more_marks es (sign signs.Semicolon ∷ r)))
    (λ r. ap (λ x. more_stmts (echo_stmt (more_exprs x (more_exprs_tree g.form))) r) f.made ∙ ap (λ x. more_stmts (echo_stmt (more_exprs e x)) r) g.made)
    refl
    (λ r. ap (λ ts. word_terminal word.Echo ∷ expr_terminals f.form ts) (g.spelled (sign signs.Semicolon ∷ r)) ∙ ap (λ (ts : List Terminal). word_terminal word.Echo ∷ ts) (f.spelled (more_marks es (sign signs.Semicolon ∷ r))))

pub run_said : (e : PlainExpr) → IsExpr e (expr_marks e) → IsStmt (run_stmt e) (λ r. expr_marks e (sign signs.Semicolon ∷ r))
unfolding stmt_trees stmt_terminals nearest
run_said e f = single (run_form f.form) (run_stmt e) (λ r. expr_marks e (sign signs.Semicolon ∷ r)) (λ r. ap (λ x. more_stmts (run_stmt x) r) f.made) refl (λ r. f.spelled (sign signs.Semicolon ∷ r))

-- the terminals of a condition, and of a body in braces
pub condition_spelled : (e : PlainExpr) (f : IsExpr e (expr_marks e)) (r : List Mark)
    → sign_terminal signs.OpenParen ∷ expr_terminals f.form (sign_terminal signs.CloseParen ∷ marked r) ≡ marked (condition_marks e r)
condition_spelled e f r = ap (λ (ts : List Terminal). sign_terminal signs.OpenParen ∷ ts) (f.spelled (sign signs.CloseParen ∷ r))

abbrev pub body_marks : PlainStmts → List Mark → List Mark
body_marks ss r = sign signs.OpenBrace ∷ stmts_marks ss (sign signs.CloseBrace ∷ r)

pub body_spelled : (ss : PlainStmts) (f : IsStmts ss (stmts_marks ss)) (r : List Mark)
    → stmt_terminals (block_form f.form) (marked r) ≡ marked (body_marks ss r)
unfolding stmt_terminals
body_spelled ss f r = ap (λ (ts : List Terminal). sign_terminal signs.OpenBrace ∷ ts) (f.spelled (sign signs.CloseBrace ∷ r))

-- a condition and a body behind it
pub arm_spelled : (e : PlainExpr) (ss : PlainStmts) (f : IsExpr e (expr_marks e)) (g : IsStmts ss (stmts_marks ss)) (r : List Mark)
    → sign_terminal signs.OpenParen ∷ expr_terminals f.form (sign_terminal signs.CloseParen ∷ stmt_terminals (block_form g.form) (marked r)) ≡ marked (condition_marks e (body_marks ss r))
arm_spelled e ss f g r = ap (λ ts. sign_terminal signs.OpenParen ∷ expr_terminals f.form (sign_terminal signs.CloseParen ∷ ts)) (body_spelled ss g r) ∙ condition_spelled e f (body_marks ss r)

pub record IsArms (a : PlainArms) : Type 0 where
  pub form : ArmsForm
  pub made : arms_tree form ≡ a
  pub near : (l : ElseForm) → arms_nearest form l ≡ true
  pub spelled : (r : List Mark) → arms_terminals form (marked r) ≡ marked (arms_marks a word.ElseIf r)

pub arms_none : IsArms no_arms
unfolding stmt_trees stmt_terminals nearest stmt_marks
arms_none = record { form = no_arms_form; made = refl; near = λ l. refl; spelled = λ r. refl }

pub arms_more : (e : PlainExpr) (ss : PlainStmts) (a : PlainArms) → IsExpr e (expr_marks e) → IsStmts ss (stmts_marks ss) → IsArms a → IsArms (more_arms e ss a)
unfolding stmt_trees stmt_terminals nearest takes_else stmt_marks
arms_more e ss a f g h = record {
  form = elseif_form f.form (block_form g.form) h.form;
  made = ap (λ x. more_arms x (stmts_trees g.form no_stmts) (arms_tree h.form)) f.made ∙ ap (λ x. more_arms e x (arms_tree h.form)) g.made ∙ ap (more_arms e ss) h.made;
  near = λ l. rw (g.near, h.near l) refl;
  spelled = λ r. ap (λ (ts : List Terminal). word_terminal word.ElseIf ∷ sign_terminal signs.OpenParen ∷ expr_terminals f.form (sign_terminal signs.CloseParen ∷ stmt_terminals (block_form g.form) ts)) (h.spelled r)
      ∙ ap (λ (ts : List Terminal). word_terminal word.ElseIf ∷ ts) (arm_spelled e ss f g (arms_marks a word.ElseIf r));
}

pub record IsElse (ss : PlainStmts) : Type 0 where
  pub form : ElseForm
  pub made : else_tree form ≡ ss
  pub near : else_nearest form ≡ true
  pub spelled : (r : List Mark) → else_terminals form (marked r) ≡ marked (else_marks ss r)

pub else_said : (ss : PlainStmts) → IsStmts ss (stmts_marks ss) → IsElse ss
unfolding stmt_trees stmt_terminals nearest stmt_marks
else_said no_stmts g = record { form = no_else_form; made = refl; near = refl; spelled = λ r. refl }
else_said (more_stmts s ss) g = record {
  form = else_form (block_form g.form);
  made = g.made;
  near = rw g.near refl;
  spelled = λ r. ap (λ (ts : List Terminal). word_terminal word.Else ∷ ts) (body_spelled (more_stmts s ss) g r);
}

pub if_said : (e : PlainExpr) (ss : PlainStmts) (a : PlainArms) (last : PlainStmts) → IsExpr e (expr_marks e) → IsStmts ss (stmts_marks ss) → IsArms a → IsElse last
    → IsStmt (if_stmt (more_arms e ss a) last) (λ r. arms_marks (more_arms e ss a) word.If (else_marks last r))
unfolding stmt_trees stmt_terminals nearest takes_else stmt_marks
if_said e ss a last f g h k = single (if_form f.form (block_form g.form) h.form k.form) (if_stmt (more_arms e ss a) last) (λ r. arms_marks (more_arms e ss a) word.If (else_marks last r))
    (λ r. ap (λ x. more_stmts (if_stmt (more_arms x (stmts_trees g.form no_stmts) (arms_tree h.form)) (else_tree k.form)) r) f.made
    ∙ ap (λ x. more_stmts (if_stmt (more_arms e x (arms_tree h.form)) (else_tree k.form)) r) g.made
    ∙ ap (λ x. more_stmts (if_stmt (more_arms e ss x) (else_tree k.form)) r) h.made
    ∙ ap (λ x. more_stmts (if_stmt (more_arms e ss a) x) r) k.made)
    (rw (g.near, h.near k.form, k.near) refl)
    (λ r. ap (λ (ts : List Terminal). word_terminal word.If ∷ sign_terminal signs.OpenParen ∷ expr_terminals f.form (sign_terminal signs.CloseParen ∷ stmt_terminals (block_form g.form) (arms_terminals h.form ts))) (k.spelled r)
    ∙ ap (λ (ts : List Terminal). word_terminal word.If ∷ sign_terminal signs.OpenParen ∷ expr_terminals f.form (sign_terminal signs.CloseParen ∷ stmt_terminals (block_form g.form) ts)) (h.spelled (else_marks last r))
    ∙ ap (λ (ts : List Terminal). word_terminal word.If ∷ ts) (arm_spelled e ss f g (arms_marks a word.ElseIf (else_marks last r))))
