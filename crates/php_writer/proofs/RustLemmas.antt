-- What the code counts on of the definitions.
use Rattle.std.proofs.Common.{◌≡◌, ◌≢◌, ◌∙◌, ℕ, ◌≤◌, ◌<◌, ◌+◌, List, [], ◌∷◌, length, drop, get_or, refl, arith, add-one, drop-cons, ap, sym}
use Rattle.std.specs.Prelude.{◌==◌, ◌||◌, if◌then◌else◌, false, nat_lt}
use Rattle.lexical_grammar.specs.Spelled.{quoted}
use Rattle.script_grammar.specs.declared.keyword.Keyword.TheVariants as word
use Rattle.php_syntax.specs.declared.tree.Expr.{Expr}
use Rattle.php_syntax.specs.declared.tree.Stmt.{Stmt}
use Rattle.php_syntax.specs.declared.token.Sign.TheVariants as signs
use Rattle.php_syntax.specs.Trees.{PlainExpr, PlainExprs, no_exprs, more_exprs, exprs_of, plain_expr, stmts_of}
use Rattle.spellable.specs.Marks.{Mark, keyword, sign, read}
use Rattle.php_writer.specs.Written.{read_name, read_keys, join_looseness, looseness, within, expr_marks, list_marks, more_marks, join_marks, dotted_marks, placed_marks, behind_marks, chain_marks, stmt_marks, stmts_marks, else_marks}
use Rattle.php_writer.proofs.Looseness.{at_most_an_assignment}
use Rattle.std.proofs.lemmas.Bool.Decides.{nat_tests}

-- two parts or more are a chain of `.`
pub join_looseness_is : (es : List Expr) → 2 ≤ length es → join_looseness (exprs_of es) ≡ 5
join_looseness_is [] h = absurd (omega arith)
join_looseness_is (e ∷ []) h = absurd (omega arith)
join_looseness_is (e ∷ f ∷ es) h = refl

pub template_looseness_is : (es : List Expr) → length es < 2 → join_looseness (exprs_of es) ≡ 1
template_looseness_is [] h = refl
template_looseness_is (e ∷ []) h = refl
template_looseness_is (e ∷ f ∷ es) h = absurd (omega arith)

-- the first byte that is left to quote
pub quoted_drop : (text : List ℕ) (k : ℕ) → k < length text → quoted (drop k text) ≡ (if (get_or text k 0 == 39) || (get_or text k 0 == 92) then 92 ∷ get_or text k 0 ∷ quoted (drop (k + 1) text) else get_or text k 0 ∷ quoted (drop (k + 1) text))
quoted_drop text k h = rw (drop-cons text k 0, add-one) refl

no_looser : (n : ℕ) → n ≤ 12 → nat_lt 12 n ≡ false
no_looser n h = grind (arith, nat_tests)

-- the loosest place needs no brackets
placed_whole : (e : PlainExpr) (r : List Mark) → expr_marks e r ≡ placed_marks 12 e r
unfolding placed_marks
placed_whole e r = rw (no_looser (looseness e) (at_most_an_assignment e)) refl

more_is : (es : PlainExprs) (r : List Mark) → more_marks es r ≡ behind_marks es signs.Comma 12 r
unfolding expr_marks behind_marks
more_is no_exprs r = refl
more_is (more_exprs e es) r = ap (λ ms. sign signs.Comma ∷ expr_marks e ms) (more_is es r) ∙ ap (λ (ms : List Mark). sign signs.Comma ∷ ms) (placed_whole e (behind_marks es signs.Comma 12 r))

pub list_is_chain : (es : PlainExprs) (r : List Mark) → list_marks es r ≡ chain_marks es signs.Comma 12 r
unfolding expr_marks chain_marks
list_is_chain no_exprs r = refl
list_is_chain (more_exprs e es) r = ap (expr_marks e) (more_is es r) ∙ placed_whole e (behind_marks es signs.Comma 12 r)

dotted_is : (es : PlainExprs) (r : List Mark) → dotted_marks es r ≡ behind_marks es signs.Dot 4 r
unfolding expr_marks behind_marks placed_marks
dotted_is no_exprs r = refl
dotted_is (more_exprs e es) r = ap (λ ms. sign signs.Dot ∷ within 4 (looseness e) (expr_marks e) ms) (dotted_is es r)

join_of_two : (es : List Expr) (r : List Mark) → 2 ≤ length es → join_marks (exprs_of es) r ≡ chain_marks (exprs_of es) signs.Dot 4 r
unfolding expr_marks chain_marks placed_marks
join_of_two [] r h = refl
join_of_two (e ∷ []) r h = absurd (omega arith)
join_of_two (e ∷ f ∷ es) r h = ap (within 4 (looseness (plain_expr e)) (expr_marks (plain_expr e))) (dotted_is (exprs_of (f ∷ es)) r)

-- a join of two parts or more, and of none
pub join_is_chain : (es : List Expr) (r : List Mark) → length es ≢ 1 → join_marks (exprs_of es) r ≡ chain_marks (exprs_of es) signs.Dot 4 r
unfolding expr_marks chain_marks
join_is_chain [] r h = refl
join_is_chain (e ∷ []) r h = absurd (h refl)
join_is_chain (e ∷ f ∷ es) r h = join_of_two (e ∷ f ∷ es) r (omega arith)

-- a join of one part is a template
pub join_is_read : (e : Expr) (r : List Mark) → join_marks (exprs_of (e ∷ [])) r ≡ read (read_name (plain_expr e)) (read_keys (plain_expr e) []) ∷ r
unfolding expr_marks
join_is_read e r = refl

pub one_part : (es : List Expr) (e : Expr) → 1 ≤ length es → length es < 2 → e ≡ get_or es 0 e → es ≡ e ∷ []
one_part [] e h k same = absurd (omega arith)
one_part (f ∷ []) e h k same = ap (λ x. x ∷ []) (sym same)
one_part (f ∷ g ∷ es) e h k same = absurd (omega arith)

pub else_is : (ss : List Stmt) (r : List Mark) → 0 < length ss → else_marks (stmts_of ss) r ≡ keyword word.Else ∷ sign signs.OpenBrace ∷ stmts_marks (stmts_of ss) (sign signs.CloseBrace ∷ r)
unfolding stmt_marks
else_is [] r h = absurd (omega arith)
else_is (s ∷ ss) r h = refl

pub else_none : (ss : List Stmt) (r : List Mark) → length ss ≡ 0 → else_marks (stmts_of ss) r ≡ r
unfolding stmt_marks
else_none [] r h = refl
else_none (s ∷ ss) r h = absurd (omega arith)
