-- Forms of a tree at each place: what stands at a tight place stands at a looser one, and in round brackets at any.
use Rattle.std.proofs.Common.{◌≡◌, ℕ, suc, zero, ◌≤◌, ◌⊎◌, inl, inr, Bool, true, false, List, ◌∷◌, refl, ap, subst, arith, if◌then◌else◌}
use Rattle.std.specs.Prelude.{nat_lt, nat_le}
use Rattle.std.proofs.lemmas.Bool.Decides.{nat_tests}
use Rattle.php_syntax.specs.declared.token.Sign.TheVariants as signs
use Rattle.script_grammar.specs.declared.operator.Level.{Level}
use Rattle.script_grammar.specs.declared.operator.Level.TheVariants as level
use Rattle.php_syntax.specs.Trees.{PlainExpr}
use Rattle.script_grammar.specs.Terminals.{Terminal, sign_terminal}
use Rattle.script_grammar.specs.Expressions.{ExprForm, choice_form, ChoiceForm, only_choice, NulForm, only_nul, ChainForm, chain_form, no_more, OperandForm, tighter_form, tightest_form, UnaryForm, post_form, PostForm, base_form, BaseForm, parens_base, SubscriptsForm, no_subscript, expr_terminals, choice_terminals, nul_terminals, chain_terminals, operand_terminals, unary_terminals, post_terminals, base_terminals, subscripts_terminals, expr_tree, choice_tree, nul_tree, chain_tree, operand_tree, unary_tree, post_tree, base_tree, subscripts_tree}
use Rattle.spellable.specs.Marks.{Mark, sign, marked}
use Rattle.php_writer.specs.Written.{within}

-- a form of this tree, spelled by these marks
pub record Formed (F T : Type 0) (tree : F → T) (terminals : F → List Terminal → List Terminal) (e : T) (m : List Mark → List Mark) : Type 0 where
  pub form : F
  pub made : tree form ≡ e
  pub spelled : (r : List Mark) → terminals form (marked r) ≡ marked (m r)

abbrev pub IsExpr : PlainExpr → (List Mark → List Mark) → Type 0
IsExpr e m = Formed ExprForm PlainExpr expr_tree expr_terminals e m

abbrev pub IsChoice : PlainExpr → (List Mark → List Mark) → Type 0
IsChoice e m = Formed ChoiceForm PlainExpr choice_tree choice_terminals e m

abbrev pub IsNul : PlainExpr → (List Mark → List Mark) → Type 0
IsNul e m = Formed NulForm PlainExpr nul_tree nul_terminals e m

abbrev pub IsChain : Level → PlainExpr → (List Mark → List Mark) → Type 0
IsChain l e m = Formed (ChainForm l) PlainExpr (λ c. chain_tree c) (λ c r. chain_terminals c r) e m

abbrev pub IsOperand : Level → PlainExpr → (List Mark → List Mark) → Type 0
IsOperand l e m = Formed (OperandForm l) PlainExpr (λ c. operand_tree c) (λ c r. operand_terminals c r) e m

abbrev pub IsUnary : PlainExpr → (List Mark → List Mark) → Type 0
IsUnary e m = Formed UnaryForm PlainExpr unary_tree unary_terminals e m

abbrev pub IsPost : PlainExpr → (List Mark → List Mark) → Type 0
IsPost e m = Formed PostForm PlainExpr post_tree post_terminals e m

abbrev pub IsBase : PlainExpr → (List Mark → List Mark) → Type 0
IsBase e m = Formed (BaseForm × SubscriptsForm) PlainExpr (λ p. subscripts_tree p.1 (base_tree p.0)) (λ p r. base_terminals p.0 (subscripts_terminals p.1 r)) e m

-- a form at a place that allows so much
abbrev pub Own : ℕ → PlainExpr → (List Mark → List Mark) → Type 0
Own zero e m = IsBase e m
Own (suc zero) e m = IsPost e m
Own (suc (suc zero)) e m = IsUnary e m
Own (suc (suc (suc zero))) e m = IsChain level.Product e m
Own (suc (suc (suc (suc zero)))) e m = IsChain level.Sum e m
Own (suc (suc (suc (suc (suc zero))))) e m = IsChain level.Join e m
Own (suc (suc (suc (suc (suc (suc zero)))))) e m = IsChain level.Order e m
Own (suc (suc (suc (suc (suc (suc (suc zero))))))) e m = IsChain level.Equality e m
Own (suc (suc (suc (suc (suc (suc (suc (suc zero)))))))) e m = IsChain level.And e m
Own (suc (suc (suc (suc (suc (suc (suc (suc (suc zero))))))))) e m = IsChain level.Or e m
Own (suc (suc (suc (suc (suc (suc (suc (suc (suc (suc zero)))))))))) e m = IsNul e m
Own (suc (suc (suc (suc (suc (suc (suc (suc (suc (suc (suc zero))))))))))) e m = IsChoice e m
Own (suc (suc (suc (suc (suc (suc (suc (suc (suc (suc (suc (suc n)))))))))))) e m = IsExpr e m

post_of : {e : PlainExpr} {m : List Mark → List Mark} → IsBase e m → IsPost e m
unfolding expr_tree expr_terminals
post_of f = record { form = base_form f.form.0 f.form.1; made = f.made; spelled = f.spelled }

unary_of : {e : PlainExpr} {m : List Mark → List Mark} → IsPost e m → IsUnary e m
unfolding expr_tree expr_terminals
unary_of f = record { form = post_form f.form; made = f.made; spelled = f.spelled }

pub tightest_of : {e : PlainExpr} {m : List Mark → List Mark} → IsUnary e m → IsOperand level.Product e m
unfolding expr_tree expr_terminals
tightest_of f = record { form = tightest_form refl f.form; made = f.made; spelled = f.spelled }

product_of : {e : PlainExpr} {m : List Mark → List Mark} → IsUnary e m → IsChain level.Product e m
unfolding expr_tree expr_terminals
product_of f = record { form = chain_form (tightest_form refl f.form) no_more; made = f.made; spelled = f.spelled }

sum_of : {e : PlainExpr} {m : List Mark → List Mark} → IsChain level.Product e m → IsChain level.Sum e m
unfolding expr_tree expr_terminals
sum_of f = record { form = chain_form (tighter_form refl f.form) no_more; made = f.made; spelled = f.spelled }

join_of : {e : PlainExpr} {m : List Mark → List Mark} → IsChain level.Sum e m → IsChain level.Join e m
unfolding expr_tree expr_terminals
join_of f = record { form = chain_form (tighter_form refl f.form) no_more; made = f.made; spelled = f.spelled }

order_of : {e : PlainExpr} {m : List Mark → List Mark} → IsChain level.Join e m → IsChain level.Order e m
unfolding expr_tree expr_terminals
order_of f = record { form = chain_form (tighter_form refl f.form) no_more; made = f.made; spelled = f.spelled }

equality_of : {e : PlainExpr} {m : List Mark → List Mark} → IsChain level.Order e m → IsChain level.Equality e m
unfolding expr_tree expr_terminals
equality_of f = record { form = chain_form (tighter_form refl f.form) no_more; made = f.made; spelled = f.spelled }

and_of : {e : PlainExpr} {m : List Mark → List Mark} → IsChain level.Equality e m → IsChain level.And e m
unfolding expr_tree expr_terminals
and_of f = record { form = chain_form (tighter_form refl f.form) no_more; made = f.made; spelled = f.spelled }

or_of : {e : PlainExpr} {m : List Mark → List Mark} → IsChain level.And e m → IsChain level.Or e m
unfolding expr_tree expr_terminals
or_of f = record { form = chain_form (tighter_form refl f.form) no_more; made = f.made; spelled = f.spelled }

nul_of : {e : PlainExpr} {m : List Mark → List Mark} → IsChain level.Or e m → IsNul e m
unfolding expr_tree expr_terminals
nul_of f = record { form = only_nul f.form; made = f.made; spelled = f.spelled }

choice_of : {e : PlainExpr} {m : List Mark → List Mark} → IsNul e m → IsChoice e m
unfolding expr_tree expr_terminals
choice_of f = record { form = only_choice f.form; made = f.made; spelled = f.spelled }

expr_of : {e : PlainExpr} {m : List Mark → List Mark} → IsChoice e m → IsExpr e m
unfolding expr_tree expr_terminals
expr_of f = record { form = choice_form f.form; made = f.made; spelled = f.spelled }

-- one place looser
one_looser : (n : ℕ) (e : PlainExpr) (m : List Mark → List Mark) → Own n e m → Own (suc n) e m
one_looser zero e m f = post_of f
one_looser (suc zero) e m f = unary_of f
one_looser (suc (suc zero)) e m f = product_of f
one_looser (suc (suc (suc zero))) e m f = sum_of f
one_looser (suc (suc (suc (suc zero)))) e m f = join_of f
one_looser (suc (suc (suc (suc (suc zero))))) e m f = order_of f
one_looser (suc (suc (suc (suc (suc (suc zero)))))) e m f = equality_of f
one_looser (suc (suc (suc (suc (suc (suc (suc zero))))))) e m f = and_of f
one_looser (suc (suc (suc (suc (suc (suc (suc (suc zero)))))))) e m f = or_of f
one_looser (suc (suc (suc (suc (suc (suc (suc (suc (suc zero))))))))) e m f = nul_of f
one_looser (suc (suc (suc (suc (suc (suc (suc (suc (suc (suc zero)))))))))) e m f = choice_of f
one_looser (suc (suc (suc (suc (suc (suc (suc (suc (suc (suc (suc zero))))))))))) e m f = expr_of f
one_looser (suc (suc (suc (suc (suc (suc (suc (suc (suc (suc (suc (suc n)))))))))))) e m f = f

last_or_before : (own n : ℕ) → own ≤ suc n → (own ≡ suc n) ⊎ (own ≤ n)
last_or_before own n h = by (nat_le own n) refl
  where
    by : (b : Bool) → nat_le own n ≡ b → (own ≡ suc n) ⊎ (own ≤ n)
    by true e = inr (grind (arith, nat_tests))
    by false e = inl (grind (arith, nat_tests))

either : (own n : ℕ) (e : PlainExpr) (m : List Mark → List Mark) → Own own e m → (own ≤ n → Own n e m) → (own ≡ suc n) ⊎ (own ≤ n) → Own (suc n) e m
either own n e m f before (inl same) = let P : ℕ → Type 0 = λ k. Own k e m in subst P same f
either own n e m f before (inr less) = one_looser n e m (before less)

-- at a place that allows what a tree is, or more
pub loosened : (place own : ℕ) (e : PlainExpr) (m : List Mark → List Mark) → own ≤ place → Own own e m → Own place e m
loosened zero own e m h f = let P : ℕ → Type 0 = λ n. Own n e m in let same : own ≡ zero = omega arith in subst P same f
loosened (suc n) own e m h f = either own n e m f (λ less. loosened n own e m less f) (last_or_before own n h)

-- in round brackets
in_brackets : {e : PlainExpr} {m : List Mark → List Mark} → IsExpr e m → IsBase e (λ r. sign signs.OpenParen ∷ m (sign signs.CloseParen ∷ r))
unfolding expr_tree expr_terminals
in_brackets f = record { form = (parens_base f.form, no_subscript); made = f.made; spelled = λ r. ap (λ (ts : List Terminal). sign_terminal signs.OpenParen ∷ ts) (f.spelled (sign signs.CloseParen ∷ r)) }

placed_by : (place own : ℕ) (e : PlainExpr) (m : List Mark → List Mark) → own ≤ 12 → Own own e m → (loose : Bool) → nat_lt place own ≡ loose
    → Own place e (λ r. if loose then sign signs.OpenParen ∷ m (sign signs.CloseParen ∷ r) else m r)
placed_by place own e m h f true g = loosened place 0 e (λ r. sign signs.OpenParen ∷ m (sign signs.CloseParen ∷ r)) (omega arith) (in_brackets (loosened 12 own e m h f))
placed_by place own e m h f false g = loosened place own e m (grind (arith, nat_tests)) f

-- at any place, with brackets where the place needs them
pub placed : (place own : ℕ) (e : PlainExpr) (m : List Mark → List Mark) → own ≤ 12 → Own own e m → Own place e (within place own m)
placed place own e m h f = placed_by place own e m h f (nat_lt place own) refl
