-- Forms of operations, from forms of their operands.
use Rattle.std.proofs.Common.{◌≡◌, ◌∙◌, true, false, List, ◌∷◌, Some, refl, ap}
use Rattle.php_syntax.specs.declared.token.Sign.{Sign}
use Rattle.php_syntax.specs.declared.token.Sign.TheVariants as signs
use Rattle.php_syntax.specs.declared.tree.ArithSign.{ArithSign}
use Rattle.php_syntax.specs.declared.tree.ArithSign.TheVariants as arith
use Rattle.php_syntax.specs.declared.tree.CompareSign.{CompareSign}
use Rattle.php_syntax.specs.declared.tree.CompareSign.TheVariants as compare
use Rattle.script_grammar.specs.declared.operator.Level.{Level}
use Rattle.script_grammar.specs.declared.operator.Level.TheVariants as level
use Rattle.script_grammar.specs.declared.operator.Operator.{Operator}
use Rattle.script_grammar.specs.declared.operator.Operator.TheVariants as operator
use Rattle.script_grammar.specs.declared.operator.Prefix.{Prefix}
use Rattle.script_grammar.specs.declared.operator.Prefix.TheVariants as prefix
use Rattle.script_grammar.specs.Operators.{tighter_level, repeats, binary_operator, prefix_operator}
use Rattle.php_syntax.specs.Trees.{PlainExpr, neg_expr, not_expr, arith_expr, compare_expr, and_expr, or_expr, coalesce_expr, choice_expr, no_expr, some_expr}
use Rattle.script_grammar.specs.Terminals.{sign_terminal}
use Rattle.script_grammar.specs.Expressions.{short_choice, full_choice, coalesce_form, chain_form, once_more, tighter_form, prefix_form, expr_terminals, expr_tree, nul_terminals, chain_terminals, operand_terminals, nul_tree, operand_tree, operator_tree, prefix_tree}
use Rattle.spellable.specs.Marks.{Mark, sign, marked}
use Rattle.php_writer.specs.Written.{arith_sign, compare_sign, arith_looseness, compare_looseness, arith_side, compare_side}
use Rattle.php_writer.proofs.Chains.{Leans, chain_then, chain_then-terminals, chain_then-tree}
use Rattle.php_writer.proofs.FormPlaces.{IsExpr, IsChoice, IsNul, IsChain, IsOperand, IsUnary, Own, tightest_of}

-- a chain as an operand of the next looser level
pub operand_of : (l m : Level) (e : PlainExpr) (t : List Mark → List Mark) → tighter_level l ≡ Some m → IsChain m e t → IsOperand l e t
unfolding expr_tree expr_terminals
operand_of l m e t is f = record { form = tighter_form is f.form; made = f.made; spelled = f.spelled }

-- one more operand
chain_formed : (l : Level) (s : Sign) (o : Operator) (is : binary_operator s ≡ Some (l, o)) (on : repeats l ≡ true) → Leans l → (a b : PlainExpr) (m n : List Mark → List Mark)
    → IsChain l a m → IsOperand l b n → IsChain l (operator_tree o a b) (λ r. m (sign s ∷ n r))
chain_formed l s o is on leans a b m n f g = record {
  form = chain_then f.form s o is on g.form;
  made = chain_then-tree f.form s o is on g.form leans ∙ ap (λ e. operator_tree o e (operand_tree g.form)) f.made ∙ ap (operator_tree o a) g.made;
  spelled = λ r. chain_then-terminals f.form s o is on g.form (marked r) ∙ ap (λ ts. chain_terminals f.form (sign_terminal s ∷ ts)) (g.spelled r) ∙ f.spelled (sign s ∷ n r);
}

-- two operands of a level that does not repeat
once_formed : (l : Level) (s : Sign) (o : Operator) (is : binary_operator s ≡ Some (l, o)) (last : repeats l ≡ false) → Leans l → (a b : PlainExpr) (m n : List Mark → List Mark)
    → IsOperand l a m → IsOperand l b n → IsChain l (operator_tree o a b) (λ r. m (sign s ∷ n r))
unfolding expr_tree expr_terminals
once_formed l s o is last leans a b m n f g = record {
  form = chain_form f.form (once_more s o is last g.form);
  made = leans (operand_tree f.form) _ ∙ ap (λ e. operator_tree o e (operand_tree g.form)) f.made ∙ ap (operator_tree o a) g.made;
  spelled = λ r. ap (λ ts. operand_terminals f.form (sign_terminal s ∷ ts)) (g.spelled r) ∙ f.spelled (sign s ∷ n r);
}

pub arith_formed : (s : ArithSign) (a b : PlainExpr) (m n : List Mark → List Mark) → Own (arith_looseness s) a m → Own (arith_side s) b n
    → Own (arith_looseness s) (arith_expr s a b) (λ r. m (sign (arith_sign s) ∷ n r))
arith_formed arith.Add a b m n f g = chain_formed level.Sum signs.Plus (operator.Arith arith.Add) refl refl (λ e ls. refl) a b m n f (operand_of level.Sum level.Product b n refl g)
arith_formed arith.Sub a b m n f g = chain_formed level.Sum signs.Minus (operator.Arith arith.Sub) refl refl (λ e ls. refl) a b m n f (operand_of level.Sum level.Product b n refl g)
arith_formed arith.Mul a b m n f g = chain_formed level.Product signs.Star (operator.Arith arith.Mul) refl refl (λ e ls. refl) a b m n f (tightest_of g)
arith_formed arith.Rem a b m n f g = chain_formed level.Product signs.Percent (operator.Arith arith.Rem) refl refl (λ e ls. refl) a b m n f (tightest_of g)

equality_formed : (s : Sign) (c : CompareSign) (is : binary_operator s ≡ Some (level.Equality, operator.Compare c)) (a b : PlainExpr) (m n : List Mark → List Mark)
    → IsChain level.Order a m → IsChain level.Order b n → IsChain level.Equality (compare_expr c a b) (λ r. m (sign s ∷ n r))
equality_formed s c is a b m n f g =
    once_formed level.Equality s (operator.Compare c) is refl (λ e ls. refl) a b m n (operand_of level.Equality level.Order a m refl f) (operand_of level.Equality level.Order b n refl g)

order_formed : (s : Sign) (c : CompareSign) (is : binary_operator s ≡ Some (level.Order, operator.Compare c)) (a b : PlainExpr) (m n : List Mark → List Mark)
    → IsChain level.Join a m → IsChain level.Join b n → IsChain level.Order (compare_expr c a b) (λ r. m (sign s ∷ n r))
order_formed s c is a b m n f g =
    once_formed level.Order s (operator.Compare c) is refl (λ e ls. refl) a b m n (operand_of level.Order level.Join a m refl f) (operand_of level.Order level.Join b n refl g)

pub compare_formed : (s : CompareSign) (a b : PlainExpr) (m n : List Mark → List Mark) → Own (compare_side s) a m → Own (compare_side s) b n
    → Own (compare_looseness s) (compare_expr s a b) (λ r. m (sign (compare_sign s) ∷ n r))
compare_formed compare.Equal a b m n f g = equality_formed signs.Equal compare.Equal refl a b m n f g
compare_formed compare.NotEqual a b m n f g = equality_formed signs.NotEqual compare.NotEqual refl a b m n f g
compare_formed compare.Identical a b m n f g = equality_formed signs.Identical compare.Identical refl a b m n f g
compare_formed compare.NotIdentical a b m n f g = equality_formed signs.NotIdentical compare.NotIdentical refl a b m n f g
compare_formed compare.Less a b m n f g = order_formed signs.Less compare.Less refl a b m n f g
compare_formed compare.LessEqual a b m n f g = order_formed signs.LessEqual compare.LessEqual refl a b m n f g
compare_formed compare.Greater a b m n f g = order_formed signs.Greater compare.Greater refl a b m n f g
compare_formed compare.GreaterEqual a b m n f g = order_formed signs.GreaterEqual compare.GreaterEqual refl a b m n f g

pub and_formed : (a b : PlainExpr) (m n : List Mark → List Mark) → IsChain level.And a m → IsChain level.Equality b n → IsChain level.And (and_expr a b) (λ r. m (sign signs.And ∷ n r))
and_formed a b m n f g = chain_formed level.And signs.And operator.And refl refl (λ e ls. refl) a b m n f (operand_of level.And level.Equality b n refl g)

pub or_formed : (a b : PlainExpr) (m n : List Mark → List Mark) → IsChain level.Or a m → IsChain level.And b n → IsChain level.Or (or_expr a b) (λ r. m (sign signs.Or ∷ n r))
or_formed a b m n f g = chain_formed level.Or signs.Or operator.Or refl refl (λ e ls. refl) a b m n f (operand_of level.Or level.And b n refl g)

pub coalesce_formed : (a b : PlainExpr) (m n : List Mark → List Mark) → IsChain level.Or a m → IsNul b n → IsNul (coalesce_expr a b) (λ r. m (sign signs.Coalesce ∷ n r))
unfolding expr_tree expr_terminals
coalesce_formed a b m n f g = record {
  form = coalesce_form f.form g.form;
  made = ap (λ e. coalesce_expr e (nul_tree g.form)) f.made ∙ ap (coalesce_expr a) g.made;
  spelled = λ r. ap (λ ts. chain_terminals f.form (sign_terminal signs.Coalesce ∷ ts)) (g.spelled r) ∙ f.spelled (sign signs.Coalesce ∷ n r);
}

pub short_formed : (a b : PlainExpr) (m n : List Mark → List Mark) → IsNul a m → IsNul b n → IsChoice (choice_expr a no_expr b) (λ r. m (sign signs.Question ∷ sign signs.Colon ∷ n r))
unfolding expr_tree expr_terminals
short_formed a b m n f g = record {
  form = short_choice f.form g.form;
  made = ap (λ e. choice_expr e no_expr (nul_tree g.form)) f.made ∙ ap (choice_expr a no_expr) g.made;
  spelled = λ r. ap (λ ts. nul_terminals f.form (sign_terminal signs.Question ∷ sign_terminal signs.Colon ∷ ts)) (g.spelled r) ∙ f.spelled (sign signs.Question ∷ sign signs.Colon ∷ n r);
}

pub full_formed : (a e b : PlainExpr) (m k n : List Mark → List Mark) → IsNul a m → IsExpr e k → IsNul b n → IsChoice (choice_expr a (some_expr e) b) (λ r. m (sign signs.Question ∷ k (sign signs.Colon ∷ n r)))
unfolding expr_tree expr_terminals
full_formed a e b m k n f h g = record {
  form = full_choice f.form h.form g.form;
  made = ap (λ x. choice_expr x (some_expr (expr_tree h.form)) (nul_tree g.form)) f.made ∙ ap (λ x. choice_expr a (some_expr x) (nul_tree g.form)) h.made ∙ ap (choice_expr a (some_expr e)) g.made;
  spelled = λ r. ap (λ ts. nul_terminals f.form (sign_terminal signs.Question ∷ expr_terminals h.form (sign_terminal signs.Colon ∷ ts))) (g.spelled r)
      ∙ ap (λ ts. nul_terminals f.form (sign_terminal signs.Question ∷ ts)) (h.spelled (sign signs.Colon ∷ n r))
      ∙ f.spelled (sign signs.Question ∷ k (sign signs.Colon ∷ n r));
}

prefix_formed : (s : Sign) (p : Prefix) (is : prefix_operator s ≡ Some p) (a : PlainExpr) (m : List Mark → List Mark) → IsUnary a m → IsUnary (prefix_tree p a) (λ r. sign s ∷ m r)
unfolding expr_tree expr_terminals
prefix_formed s p is a m f = record {
  form = prefix_form s p is f.form;
  made = ap (prefix_tree p) f.made;
  spelled = λ r. ap (λ ts. sign_terminal s ∷ ts) (f.spelled r);
}

pub neg_formed : (a : PlainExpr) (m : List Mark → List Mark) → IsUnary a m → IsUnary (neg_expr a) (λ r. sign signs.Minus ∷ m r)
neg_formed a m f = prefix_formed signs.Minus prefix.Neg refl a m f

pub not_formed : (a : PlainExpr) (m : List Mark → List Mark) → IsUnary a m → IsUnary (not_expr a) (λ r. sign signs.Not ∷ m r)
not_formed a m f = prefix_formed signs.Not prefix.Not refl a m f
