-- Plain forms of lists, side by side, where the first are copied.
use Rattle.std.proofs.Common.{◌≡◌, ◌∙◌, ℕ, drop, ◌≤◌, ◌+◌, ◌<◌, List, [], ◌∷◌, ◌++◌, length, get_or, refl, sym, ap}
use Rattle.std.proofs.lemmas.List.{drop_more, drop_all}
use Rattle.std.specs.Prelude.{Option}
use Rattle.php_syntax.specs.declared.tree.Expr.{Expr}
use Rattle.php_syntax.specs.declared.tree.Param.{Param}
use Rattle.php_syntax.specs.Trees.{PlainExprs, no_exprs, more_exprs, PlainItems, no_items, more_items, PlainPath, no_keys, more_keys, PlainParam, plain_expr, exprs_of, maybe_of, items_of, path_of, plain_param, params_of_list}

-- a copy, and what is left to copy
abbrev pub exprs_then : List Expr → PlainExprs → PlainExprs
exprs_then [] rest = rest
exprs_then (e ∷ es) rest = more_exprs (plain_expr e) (exprs_then es rest)

abbrev pub items_then : List (Option Expr × Expr) → PlainItems → PlainItems
items_then [] rest = rest
items_then (e ∷ es) rest = more_items (maybe_of e.0) (plain_expr e.1) (items_then es rest)

abbrev pub path_then : List (Option Expr) → PlainPath → PlainPath
path_then [] rest = rest
path_then (k ∷ ks) rest = more_keys (maybe_of k) (path_then ks rest)

abbrev pub params_then : List Param → List PlainParam → List PlainParam
params_then [] rest = rest
params_then (p ∷ ps) rest = plain_param p ∷ params_then ps rest

pub exprs_then_push : (xs : List Expr) (x : Expr) (rest : PlainExprs) → exprs_then (xs ++ x ∷ []) rest ≡ exprs_then xs (more_exprs (plain_expr x) rest)
exprs_then_push [] x rest = refl
exprs_then_push (y ∷ ys) x rest = ap (more_exprs (plain_expr y)) (exprs_then_push ys x rest)

pub items_then_push : (xs : List (Option Expr × Expr)) (x : Option Expr × Expr) (rest : PlainItems) → items_then (xs ++ x ∷ []) rest ≡ items_then xs (more_items (maybe_of x.0) (plain_expr x.1) rest)
items_then_push [] x rest = refl
items_then_push (y ∷ ys) x rest = ap (more_items (maybe_of y.0) (plain_expr y.1)) (items_then_push ys x rest)

pub path_then_push : (xs : List (Option Expr)) (x : Option Expr) (rest : PlainPath) → path_then (xs ++ x ∷ []) rest ≡ path_then xs (more_keys (maybe_of x) rest)
path_then_push [] x rest = refl
path_then_push (y ∷ ys) x rest = ap (more_keys (maybe_of y)) (path_then_push ys x rest)

pub params_then_push : (xs : List Param) (x : Param) (rest : List PlainParam) → params_then (xs ++ x ∷ []) rest ≡ params_then xs (plain_param x ∷ rest)
params_then_push [] x rest = refl
params_then_push (y ∷ ys) x rest = ap (λ (ps : List PlainParam). plain_param y ∷ ps) (params_then_push ys x rest)

pub exprs_then_none : (xs : List Expr) → exprs_then xs no_exprs ≡ exprs_of xs
exprs_then_none [] = refl
exprs_then_none (y ∷ ys) = ap (more_exprs (plain_expr y)) (exprs_then_none ys)

pub items_then_none : (xs : List (Option Expr × Expr)) → items_then xs no_items ≡ items_of xs
items_then_none [] = refl
items_then_none (y ∷ ys) = ap (more_items (maybe_of y.0) (plain_expr y.1)) (items_then_none ys)

pub path_then_none : (xs : List (Option Expr)) → path_then xs no_keys ≡ path_of xs
path_then_none [] = refl
path_then_none (y ∷ ys) = ap (more_keys (maybe_of y)) (path_then_none ys)

pub params_then_none : (xs : List Param) → params_then xs [] ≡ params_of_list xs
params_then_none [] = refl
params_then_none (y ∷ ys) = ap (λ (ps : List PlainParam). plain_param y ∷ ps) (params_then_none ys)

-- what is left, from a place that there is, and from the end on
pub drop_here : {X : Type 0} (xs : List X) (i : ℕ) (x : X) → i < length xs → x ≡ get_or xs i x → drop i xs ≡ x ∷ drop (i + 1) xs
drop_here xs i x lt is = drop_more xs i x lt ∙ ap (λ z. z ∷ drop (i + 1) xs) (sym is)

pub exprs_step : (xs old new : List Expr) (i : ℕ) (x copy : Expr) → i < length xs → x ≡ get_or xs i x → plain_expr copy ≡ plain_expr x → new ≡ old ++ copy ∷ [] → exprs_then old (exprs_of (drop i xs)) ≡ exprs_of xs
    → exprs_then new (exprs_of (drop (i + 1) xs)) ≡ exprs_of xs
exprs_step xs old new i x copy lt is same push inv =
    ap (λ (v : List Expr). exprs_then v (exprs_of (drop (i + 1) xs))) push ∙ exprs_then_push old copy (exprs_of (drop (i + 1) xs)) ∙ ap (λ p. exprs_then old (more_exprs p (exprs_of (drop (i + 1) xs)))) same
    ∙ sym (ap (λ (l : List Expr). exprs_then old (exprs_of l)) (drop_here xs i x lt is)) ∙ inv

pub exprs_end : (xs old : List Expr) (i : ℕ) → length xs ≤ i → exprs_then old (exprs_of (drop i xs)) ≡ exprs_of xs → exprs_of old ≡ exprs_of xs
exprs_end xs old i le inv = sym (exprs_then_none old) ∙ sym (ap (λ (l : List Expr). exprs_then old (exprs_of l)) (drop_all i xs le)) ∙ inv

pub items_step : (xs old new : List (Option Expr × Expr)) (i : ℕ) (x : Option Expr × Expr) (key : Option Expr) (value : Expr) → i < length xs → x ≡ get_or xs i x → maybe_of key ≡ maybe_of x.0 → plain_expr value ≡ plain_expr x.1
    → new ≡ old ++ (key, value) ∷ [] → items_then old (items_of (drop i xs)) ≡ items_of xs → items_then new (items_of (drop (i + 1) xs)) ≡ items_of xs
items_step xs old new i x key value lt is same_key same push inv =
    ap (λ (v : List (Option Expr × Expr)). items_then v (items_of (drop (i + 1) xs))) push ∙ items_then_push old (key, value) (items_of (drop (i + 1) xs)) ∙ ap (λ p. items_then old (more_items p (plain_expr value) (items_of (drop (i + 1) xs)))) same_key
    ∙ ap (λ p. items_then old (more_items (maybe_of x.0) p (items_of (drop (i + 1) xs)))) same ∙ sym (ap (λ (l : List (Option Expr × Expr)). items_then old (items_of l)) (drop_here xs i x lt is)) ∙ inv

pub items_end : (xs old : List (Option Expr × Expr)) (i : ℕ) → length xs ≤ i → items_then old (items_of (drop i xs)) ≡ items_of xs → items_of old ≡ items_of xs
items_end xs old i le inv = sym (items_then_none old) ∙ sym (ap (λ (l : List (Option Expr × Expr)). items_then old (items_of l)) (drop_all i xs le)) ∙ inv

pub path_step : (xs old new : List (Option Expr)) (i : ℕ) (x copy : Option Expr) → i < length xs → x ≡ get_or xs i x → maybe_of copy ≡ maybe_of x → new ≡ old ++ copy ∷ [] → path_then old (path_of (drop i xs)) ≡ path_of xs
    → path_then new (path_of (drop (i + 1) xs)) ≡ path_of xs
path_step xs old new i x copy lt is same push inv =
    ap (λ (v : List (Option Expr)). path_then v (path_of (drop (i + 1) xs))) push ∙ path_then_push old copy (path_of (drop (i + 1) xs)) ∙ ap (λ p. path_then old (more_keys p (path_of (drop (i + 1) xs)))) same
    ∙ sym (ap (λ (l : List (Option Expr)). path_then old (path_of l)) (drop_here xs i x lt is)) ∙ inv

pub path_end : (xs old : List (Option Expr)) (i : ℕ) → length xs ≤ i → path_then old (path_of (drop i xs)) ≡ path_of xs → path_of old ≡ path_of xs
path_end xs old i le inv = sym (path_then_none old) ∙ sym (ap (λ (l : List (Option Expr)). path_then old (path_of l)) (drop_all i xs le)) ∙ inv

pub params_step : (xs old new : List Param) (i : ℕ) (x copy : Param) → i < length xs → x ≡ get_or xs i x → plain_param copy ≡ plain_param x → new ≡ old ++ copy ∷ [] → params_then old (params_of_list (drop i xs)) ≡ params_of_list xs
    → params_then new (params_of_list (drop (i + 1) xs)) ≡ params_of_list xs
params_step xs old new i x copy lt is same push inv =
    ap (λ (v : List Param). params_then v (params_of_list (drop (i + 1) xs))) push ∙ params_then_push old copy (params_of_list (drop (i + 1) xs)) ∙ ap (λ (p : PlainParam). params_then old (p ∷ params_of_list (drop (i + 1) xs))) same
    ∙ sym (ap (λ (l : List Param). params_then old (params_of_list l)) (drop_here xs i x lt is)) ∙ inv

pub params_end : (xs old : List Param) (i : ℕ) → length xs ≤ i → params_then old (params_of_list (drop i xs)) ≡ params_of_list xs → params_of_list old ≡ params_of_list xs
params_end xs old i le inv = sym (params_then_none old) ∙ sym (ap (λ (l : List Param). params_then old (params_of_list l)) (drop_all i xs le)) ∙ inv

pub same_param : (a b : Param) → a.name ≡ b.name → maybe_of a.default ≡ maybe_of b.default → plain_param a ≡ plain_param b
same_param a b e f = λ i. record { name_of = e i; default_of = f i }
