-- Values of two and three others, by whether the trees are kept.
use Rattle.std.proofs.Common.{◌≡◌, ℕ, Bool, false, ap, sym, ◌∙◌}
use Rattle.std.specs.Prelude.{Option, Some, None, max}
use Rattle.script_grammar.specs.declared.operator.Operator.{Operator}
use Rattle.php_syntax.specs.Trees.{PlainExpr, coalesce_expr, choice_expr, no_expr, some_expr, member_expr}
use Rattle.script_grammar.specs.Expressions.{operator_tree}
use Rattle.script_grammar.specs.Rules.{is_place}
use Rattle.expr_machine.specs.Values.{PlainValue, known_value, tall_value, node_value, is_place_value, binary_value, coalesce_value, short_choice_value, full_choice_value, member_value}
use Rattle.expr_builder.specs.Views.{known_both}

abbrev pub Both : Type 0
Both = Option (PlainExpr × PlainExpr × ℕ)

-- what a tree of two is where both are kept
abbrev pub joined : (PlainExpr → PlainExpr → PlainExpr) → Bool → Both → PlainValue
joined f place None = tall_value place
joined f place (Some both) = node_value (f both.0 both.1) both.2 place

pub binary_by : (o : Operator) (a b : PlainValue) (both : Both) → known_both a b ≡ both → binary_value o a b ≡ joined (operator_tree o) false both
binary_by o (known_value a h) (known_value b k) both e = ap (joined (operator_tree o) false) e
binary_by o a b both e = ap (joined (operator_tree o) false) e

pub coalesce_by : (a b : PlainValue) (both : Both) → known_both a b ≡ both → coalesce_value a b ≡ joined coalesce_expr false both
coalesce_by (known_value a h) (known_value b k) both e = ap (joined coalesce_expr false) e
coalesce_by a b both e = ap (joined coalesce_expr false) e

pub short_choice_by : (a b : PlainValue) (both : Both) → known_both a b ≡ both → short_choice_value a b ≡ joined (λ x y. choice_expr x no_expr y) false both
short_choice_by (known_value a h) (known_value b k) both e = ap (joined (λ x y. choice_expr x no_expr y) false) e
short_choice_by a b both e = ap (joined (λ x y. choice_expr x no_expr y) false) e

pub member_by : (a b : PlainValue) (place : Bool) (both : Both) → place ≡ is_place_value a → known_both a b ≡ both → member_value a b ≡ joined member_expr place both
member_by (known_value a h) (known_value b k) place both p e = ap (joined member_expr (is_place a)) e ∙ ap (λ x. joined member_expr x both) (sym p)
member_by a b place both p e = ap (joined member_expr (is_place_value a)) e ∙ ap (λ x. joined member_expr x both) (sym p)

-- what a tree of three is where the last two are kept, and so is the first one
abbrev pub chosen : PlainValue → Both → PlainValue
chosen (known_value a h) (Some both) = node_value (choice_expr a (some_expr both.0) both.1) (max h both.2) false
chosen _ _ = tall_value false

pub full_choice_by : (a m b : PlainValue) (both : Both) → known_both m b ≡ both → full_choice_value a m b ≡ chosen a both
full_choice_by (known_value a h) (known_value m j) (known_value b k) both e = ap (chosen (known_value a h)) e
full_choice_by a m b both e = ap (chosen a) e

pub ruleset nodes = (binary_by, coalesce_by, short_choice_by, member_by, full_choice_by)
