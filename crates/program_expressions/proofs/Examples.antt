-- What is collected, worked out.
use Rattle.std.proofs.Common.{◌≡◌, ℕ, List, [], ◌∷◌, refl}
use Rattle.std.specs.Prelude.{None, Some}
use Rattle.php_syntax.specs.Trees.{PlainExpr, var_expr, not_expr, array_expr, choice_expr, assign_expr, call_expr, no_expr, some_expr, no_exprs, more_exprs, no_items, more_items, no_keys, more_keys, echo_stmt, for_stmt, each_stmt, break_stmt, no_stmts, more_stmts, PlainFunction}
use Rattle.program_expressions.specs.Collected.{collected, collected_of, bodies_collected, functions_collected, itself}

-- the names of variables that are read
abbrev read : PlainExpr → List (List ℕ)
read (var_expr x) = x ∷ []
read _ = []

abbrev a : PlainExpr
a = var_expr (97 ∷ [])

abbrev b : PlainExpr
b = var_expr (98 ∷ [])

abbrev c : PlainExpr
c = var_expr (99 ∷ [])

-- `f($a, !$b)`: the call, its first argument, its second, and what is negated
in_call : collected itself (call_expr (102 ∷ []) (more_exprs a (more_exprs (not_expr b) no_exprs)))
    ≡ call_expr (102 ∷ []) (more_exprs a (more_exprs (not_expr b) no_exprs)) ∷ a ∷ not_expr b ∷ b ∷ []
unfolding collected
in_call = refl

-- `$x[$a][] = [$b => $c]`: the keys of the target before the value, and a key before its value; `$x` is no expression
in_assignment : collected read (assign_expr (120 ∷ []) (more_keys (some_expr a) (more_keys no_expr no_keys)) (array_expr (more_items (some_expr b) c no_items)))
    ≡ (97 ∷ []) ∷ (98 ∷ []) ∷ (99 ∷ []) ∷ []
unfolding collected
in_assignment = refl

-- `$a ?: $b`, with no middle operand
in_choice : collected read (choice_expr a no_expr b) ≡ (97 ∷ []) ∷ (98 ∷ []) ∷ []
unfolding collected
in_choice = refl

-- `for ($a; $b; $c) echo $a;`: what ends each turn stands before the body
in_for : collected_of read (for_stmt (more_exprs a no_exprs) (some_expr b) (more_exprs c no_exprs) (more_stmts (echo_stmt (more_exprs a no_exprs)) no_stmts))
    ≡ (97 ∷ []) ∷ (98 ∷ []) ∷ (99 ∷ []) ∷ (97 ∷ []) ∷ []
unfolding collected_of collected
in_for = refl

-- `foreach ($a as $b) break;` and `foreach ($a as $c => $b) break;`: what is set stands there as a variable, a key before its value
in_each : collected_of read (each_stmt a None (98 ∷ []) (more_stmts break_stmt no_stmts)) ≡ (97 ∷ []) ∷ (98 ∷ []) ∷ []
unfolding collected_of collected
in_each = refl

in_keyed_each : collected_of read (each_stmt a (Some (99 ∷ [])) (98 ∷ []) (more_stmts break_stmt no_stmts)) ≡ (97 ∷ []) ∷ (99 ∷ []) ∷ (98 ∷ []) ∷ []
unfolding collected_of collected
in_keyed_each = refl

-- `function f($p = $a) { echo $b; }`: its default before its body, and not where bodies alone are asked for
abbrev f : PlainFunction
f = record { name_of = 102 ∷ []; params_of = record { name_of = 112 ∷ []; default_of = some_expr a } ∷ []; body_of = more_stmts (echo_stmt (more_exprs b no_exprs)) no_stmts }

in_function : functions_collected read (f ∷ []) ≡ (97 ∷ []) ∷ (98 ∷ []) ∷ []
unfolding functions_collected
in_function = refl

in_body : bodies_collected read (f ∷ []) ≡ (98 ∷ []) ∷ []
unfolding bodies_collected
in_body = refl
