-- Rows of values on the stack: what an action takes off, and the trees that it gathers.
use Rattle.std.proofs.Common.{◌≡◌, ℕ, suc, ◌+◌, Bool, true, false, List, [], ◌∷◌, refl, ap, arith, Some, None}
use Rattle.std.specs.Prelude.{if◌then◌else◌, nat_le}
use Rattle.php_syntax.specs.Trees.{MaybeExpr, no_expr, some_expr, PlainExprs, no_exprs, more_exprs}
use Rattle.script_grammar.specs.Expressions.{MoreExprsForm, no_more_exprs, one_more_expr, ListForm, empty_list, list_form, more_exprs_tree, list_tree, expr_tree}
use Rattle.script_grammar.specs.Statements.{MaybeForm, nothing_form, something_form, maybe_tree}
use Rattle.script_grammar.specs.Rules.{is_place}
use Rattle.php_syntax.specs.Height.{height, maybe_height}
use Rattle.expr_machine.specs.Postfix.{exprs_count}
use Rattle.expr_machine.specs.Values.{PlainValue, known_value, tall_value, value_of_tree, take_values}
use Rattle.expr_laws.proofs.TreeRows.{exprs_values}
use Rattle.stmt_machine.specs.Postfix.{list_count, is_something}
use Rattle.stmt_machine.specs.Made.{maybe_value}
use Rattle.stmt_laws.proofs.TreeRows.{kept}
use Rattle.stmt_laws.proofs.States.{pushed, maybe_pushed}

abbrev pub length_of : PlainExprs → ℕ
length_of no_exprs = 0
length_of (more_exprs e es) = suc (length_of es)

take_pushed : (es : PlainExprs) (n m : ℕ) (vs : List PlainValue) → m ≡ length_of es + n → take_values m [] (pushed es vs) ≡ take_values n (exprs_values es) vs
take_pushed no_exprs n m vs e = ap (λ k. take_values k [] vs) (omega arith)
take_pushed (more_exprs x es) n m vs e = take_pushed es (suc n) m (value_of_tree x ∷ vs) (omega arith)

-- a row is taken off as it was put on
pub taken : (es : PlainExprs) (n : ℕ) (vs : List PlainValue) → n ≡ length_of es → take_values n [] (pushed es vs) ≡ Some (exprs_values es, vs)
taken es n vs e = take_pushed es 0 n vs (omega arith)

pub more_length : (es : MoreExprsForm) → exprs_count es ≡ length_of (more_exprs_tree es)
unfolding expr_tree
more_length no_more_exprs = refl
more_length (one_more_expr e es) = omega (arith, more_length es)

pub list_length : (es : ListForm) → list_count es ≡ length_of (list_tree es)
unfolding expr_tree
list_length empty_list = refl
list_length (list_form e es) = omega (arith, more_length es)

-- one that may be left out
abbrev pub maybe_values : MaybeExpr → List PlainValue
maybe_values no_expr = []
maybe_values (some_expr e) = value_of_tree e ∷ []

pub maybe_taken : (e : MaybeForm) (vs : List PlainValue) → take_values (if is_something e then 1 else 0) [] (maybe_pushed (maybe_tree e) vs) ≡ Some (maybe_values (maybe_tree e), vs)
maybe_taken nothing_form vs = refl
maybe_taken (something_form e) vs = refl

pub maybe_gathered : (e : MaybeExpr) → maybe_value (maybe_values e) ≡ kept e (maybe_height e)
unfolding height
maybe_gathered no_expr = refl
maybe_gathered (some_expr e) = go (nat_le (height e) 200)
  where
    go : (q : Bool) → maybe_value ((if q then known_value e (height e) else tall_value (is_place e)) ∷ []) ≡ (if q then Some (some_expr e, height e) else None)
    go true = refl
    go false = refl
