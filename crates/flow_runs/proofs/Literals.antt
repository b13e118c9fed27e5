-- The values of literals.
use Rattle.std.proofs.Common.{◌≡◌, ℤ, neg_ℤ, List, [], ◌∷◌, refl, sym, ap, subst, Bool, true, false, Ok, Err}
use Rattle.std.specs.Prelude.{if◌then◌else◌}
use Rattle.php_syntax.specs.Trees.{PlainExpr, int_expr, text_expr, neg_expr, PlainExprs, no_exprs, more_exprs}
use Rattle.plain_values.specs.Plain.{Plain, int, text}
use Rattle.plain_values.specs.Outcome.{go_on}
use Rattle.plain_values.specs.Numeric.{is_in_range}
use Rattle.plain_values.specs.declared.fault.Fault.TheVariants.{Float}
use Rattle.script_meaning.specs.Runs.{State, Run, Going, Over, ◌then_do◌, result_of}
use Rattle.script_meaning.specs.Expressions.{Environment, value, values}

-- the value that an integer, `-` and an integer, and a text have
abbrev pub Literal : PlainExpr → Plain → Type 0
Literal (int_expr z) v = v ≡ int z
Literal (text_expr t) v = v ≡ text t
Literal (neg_expr (int_expr z)) v = v ≡ int (neg_ℤ z)
Literal _ v = Unit {0}

abbrev pub Literals : PlainExprs → List Plain → Type 0
Literals no_exprs vs = Unit {0}
Literals (more_exprs e es) [] = Unit {0}
Literals (more_exprs e es) (v ∷ vs) = Literal e v × Literals es vs

abbrev result_in : {A : Type 0} → A → Run A → A
result_in d (Going v s) = v
result_in d (Over end w) = d

negated : (y : ℤ) (b : Bool) (s t : State) (v : Plain) → result_of (go_on (if b then Ok y else Err Float) (λ z. Ok (int z))) s ≡ Going v t → v ≡ int y
unfolding result_of
negated y true s t v h = sym (ap (result_in v) h)
negated y false s t v h = absurd cc

value_literal : (w : Environment) (e : PlainExpr) (s t : State) (v : Plain) → value w e s ≡ Going v t → Literal e v
unfolding value ◌then_do◌
value_literal w (int_expr z) s t v h = sym (ap (result_in v) h)
value_literal w (text_expr b) s t v h = sym (ap (result_in v) h)
value_literal w (neg_expr (int_expr z)) s t v h = negated (neg_ℤ z) (is_in_range (neg_ℤ z)) s t v h
value_literal w e s t v h = tt

by_rest : (e : PlainExpr) (es : PlainExprs) (v : Plain) (vs : List Plain) (t : State) (r : Run (List Plain)) → Literal e v → ((us : List Plain) (s : State) → r ≡ Going us s → Literals es us) → (r then_do λ us s. Going (v ∷ us) s) ≡ Going vs t → Literals (more_exprs e es) vs
unfolding ◌then_do◌
by_rest e es v vs t (Going us s) l ls h = subst (Literals (more_exprs e es)) (ap (result_in vs) h) (l, ls us s refl)
by_rest e es v vs t (Over end w) l ls h = absurd cc

by_first : (e : PlainExpr) (es : PlainExprs) (vs : List Plain) (t : State) (r : Run Plain) (rest : State → Run (List Plain)) → ((v : Plain) (s : State) → r ≡ Going v s → Literal e v) → ((s u : State) (us : List Plain) → rest s ≡ Going us u → Literals es us) → (r then_do λ v s. (rest s then_do λ us s. Going (v ∷ us) s)) ≡ Going vs t → Literals (more_exprs e es) vs
unfolding ◌then_do◌
by_first e es vs t (Going v s) rest l ls h = by_rest e es v vs t (rest s) (l v s refl) (λ us u same. ls s u us same) h
by_first e es vs t (Over end w) rest l ls h = absurd cc

pub values_literals : (w : Environment) (es : PlainExprs) (s t : State) (vs : List Plain) → values w es s ≡ Going vs t → Literals es vs
unfolding value
values_literals w no_exprs s t vs h = tt
values_literals w (more_exprs e es) s t vs h = by_first e es vs t (value w e s) (values w es) (λ v u same. value_literal w e s u v same) (values_literals w es) h
