-- Loops over parts: the size so far, and that of what is left.
use Rattle.std.proofs.Common.{◌≡◌, ◌∙◌, ◌<◌, ◌≤◌, ℕ, ◌+◌, max, List, [], ◌∷◌, length, drop, get_or, refl, sym, ap, subst, arith}
use Rattle.std.proofs.lemmas.List.{drop_more, drop_all}
use Rattle.std.specs.Prelude.{Option}
use Rattle.std.specs.declared.vec.Vec.{Vec}
use Rattle.std.specs.declared.alloc.Global.{Global}
use Rattle.php_syntax.specs.declared.tree.Expr.{Expr}
use Rattle.php_syntax.specs.declared.tree.Stmt.{Stmt}
use Rattle.php_syntax.specs.declared.tree.Param.{Param}
use Rattle.php_syntax.specs.declared.tree.FunctionDef.{FunctionDef}
use Rattle.php_syntax.specs.Trees.{plain_expr, exprs_of, items_of, path_of, maybe_of, plain_stmt, stmts_of, arms_of, params_of_list, functions_of_list}
use Rattle.php_syntax.specs.Height.{nodes, maybe_nodes, items_nodes, height, maybe_height, items_height}
use Rattle.program_sizes.specs.declared.size.Size.{Size}
use Rattle.program_sizes.specs.Sizes as sizes
use Rattle.program_sizes.proofs.SizeLemmas.{same_size, beside_assoc, beside_none, none_beside}

-- this is the size of some parts, and with those that are left they are all
pub record SoFar (size rest all : Size) : Type 0 where
  pub done : Size
  pub is : size ≡ sizes.capped done
  pub sum : sizes.beside done rest ≡ all

pub begin : (size all : Size) → size ≡ sizes.capped sizes.none → SoFar size all all
begin size all e = record { done = sizes.none; is = e; sum = none_beside all }

-- what it says that two sizes were put side by side
abbrev pub Beside : Size → Size → Size → Type 0
Beside x y z = (a b : Size) → x ≡ sizes.capped a → y ≡ sizes.capped b → z ≡ sizes.capped (sizes.beside a b)

pub go_on : (size one new x rest rest' all : Size) → SoFar size rest all → rest ≡ sizes.beside x rest' → one ≡ sizes.capped x → Beside size one new → SoFar new rest' all
go_on size one new x rest rest' all so e is put = record {
  done = sizes.beside so.done x;
  is = put so.done x so.is is;
  sum = beside_assoc so.done x rest' ∙ ap (sizes.beside so.done) (sym e) ∙ so.sum;
}

pub finish : (size rest all : Size) → SoFar size rest all → rest ≡ sizes.none → size ≡ sizes.capped all
finish size rest all so e = so.is ∙ ap sizes.capped (sym (beside_none so.done) ∙ ap (sizes.beside so.done) (sym e) ∙ so.sum)

drop_none : {X : Type 0} (xs : List X) → drop 0 xs ≡ xs
drop_none [] = refl
drop_none (x ∷ xs) = refl

-- at the beginning all are left
pub begin_at : {X : Type 0} (f : List X → Size) (xs : List X) (size : Size) → size ≡ sizes.capped sizes.none → SoFar size (f (drop 0 xs)) (f xs)
begin_at f xs size e = let P : Size → Type 0 = λ rest. SoFar size rest (f xs) in subst P (sym (ap f (drop_none xs))) (begin size (f xs) e)

-- what is left, from a place that there is, and from the end on
pub drop_here : {X : Type 0} (xs : List X) (i : ℕ) (x : X) → i < length xs → x ≡ get_or xs i x → drop i xs ≡ x ∷ drop (i + 1) xs
drop_here xs i x lt is = drop_more xs i x lt ∙ ap (λ z. z ∷ drop (i + 1) xs) (sym is)

pub exprs_left : (xs : List Expr) (i : ℕ) (x : Expr) → i < length xs → x ≡ get_or xs i x → sizes.of_exprs (exprs_of (drop i xs)) ≡ sizes.beside (sizes.of_expr (plain_expr x)) (sizes.of_exprs (exprs_of (drop (i + 1) xs)))
unfolding nodes height
exprs_left xs i x lt is = ap (λ (l : List Expr). sizes.of_exprs (exprs_of l)) (drop_here xs i x lt is)

pub no_exprs_left : (xs : List Expr) (i : ℕ) → length xs ≤ i → sizes.of_exprs (exprs_of (drop i xs)) ≡ sizes.none
unfolding nodes height
no_exprs_left xs i le = ap (λ (l : List Expr). sizes.of_exprs (exprs_of l)) (drop_all i xs le)

item_first : (a b c d e f : ℕ) → sizes.of (a + b + c) (max d (max e f)) ≡ sizes.beside (sizes.beside (sizes.of a d) (sizes.of b e)) (sizes.of c f)
item_first a b c d e f = same_size (sizes.of (a + b + c) (max d (max e f))) (sizes.beside (sizes.beside (sizes.of a d) (sizes.of b e)) (sizes.of c f)) refl refl (omega arith)

pub items_left : (xs : List (Option Expr × Expr)) (i : ℕ) (x : Option Expr × Expr) → i < length xs → x ≡ get_or xs i x
    → sizes.of_items (items_of (drop i xs)) ≡ sizes.beside (sizes.beside (sizes.of_maybe (maybe_of x.0)) (sizes.of_expr (plain_expr x.1))) (sizes.of_items (items_of (drop (i + 1) xs)))
unfolding nodes height
items_left xs i x lt is =
    let rest = items_of (drop (i + 1) xs) in
    ap (λ (l : List (Option Expr × Expr)). sizes.of_items (items_of l)) (drop_here xs i x lt is)
    ∙ item_first (maybe_nodes (maybe_of x.0)) (nodes (plain_expr x.1)) (items_nodes rest) (maybe_height (maybe_of x.0)) (height (plain_expr x.1)) (items_height rest)

pub no_items_left : (xs : List (Option Expr × Expr)) (i : ℕ) → length xs ≤ i → sizes.of_items (items_of (drop i xs)) ≡ sizes.none
unfolding nodes height
no_items_left xs i le = ap (λ (l : List (Option Expr × Expr)). sizes.of_items (items_of l)) (drop_all i xs le)

pub keys_left : (xs : List (Option Expr)) (i : ℕ) (x : Option Expr) → i < length xs → x ≡ get_or xs i x → sizes.of_path (path_of (drop i xs)) ≡ sizes.beside (sizes.of_maybe (maybe_of x)) (sizes.of_path (path_of (drop (i + 1) xs)))
unfolding nodes height
keys_left xs i x lt is = ap (λ (l : List (Option Expr)). sizes.of_path (path_of l)) (drop_here xs i x lt is)

pub no_keys_left : (xs : List (Option Expr)) (i : ℕ) → length xs ≤ i → sizes.of_path (path_of (drop i xs)) ≡ sizes.none
unfolding nodes height
no_keys_left xs i le = ap (λ (l : List (Option Expr)). sizes.of_path (path_of l)) (drop_all i xs le)

pub stmts_left : (table : List ℕ → Size) (xs : List Stmt) (i : ℕ) (x : Stmt) → i < length xs → x ≡ get_or xs i x → sizes.of_stmts table (stmts_of (drop i xs)) ≡ sizes.beside (sizes.of_stmt table (plain_stmt x)) (sizes.of_stmts table (stmts_of (drop (i + 1) xs)))
unfolding sizes.of_stmts
stmts_left table xs i x lt is = ap (λ (l : List Stmt). sizes.of_stmts table (stmts_of l)) (drop_here xs i x lt is)

pub no_stmts_left : (table : List ℕ → Size) (xs : List Stmt) (i : ℕ) → length xs ≤ i → sizes.of_stmts table (stmts_of (drop i xs)) ≡ sizes.none
unfolding sizes.of_stmts
no_stmts_left table xs i le = ap (λ (l : List Stmt). sizes.of_stmts table (stmts_of l)) (drop_all i xs le)

pub arms_left : (table : List ℕ → Size) (xs : List (Expr × Vec Stmt Global)) (i : ℕ) (x : Expr × Vec Stmt Global) → i < length xs → x ≡ get_or xs i x
    → sizes.of_arms table (arms_of (drop i xs)) ≡ sizes.beside (sizes.beside (sizes.of_expr (plain_expr x.0)) (sizes.of_stmts table (stmts_of x.1.items))) (sizes.of_arms table (arms_of (drop (i + 1) xs)))
unfolding sizes.of_stmts
arms_left table xs i x lt is = ap (λ (l : List (Expr × Vec Stmt Global)). sizes.of_arms table (arms_of l)) (drop_here xs i x lt is)

pub no_arms_left : (table : List ℕ → Size) (xs : List (Expr × Vec Stmt Global)) (i : ℕ) → length xs ≤ i → sizes.of_arms table (arms_of (drop i xs)) ≡ sizes.none
unfolding sizes.of_stmts
no_arms_left table xs i le = ap (λ (l : List (Expr × Vec Stmt Global)). sizes.of_arms table (arms_of l)) (drop_all i xs le)

pub params_left : (xs : List Param) (i : ℕ) (x : Param) → i < length xs → x ≡ get_or xs i x → sizes.of_params (params_of_list (drop i xs)) ≡ sizes.beside (sizes.above (sizes.of_maybe (maybe_of x.default))) (sizes.of_params (params_of_list (drop (i + 1) xs)))
unfolding sizes.of_params
params_left xs i x lt is = ap (λ (l : List Param). sizes.of_params (params_of_list l)) (drop_here xs i x lt is)

pub no_params_left : (xs : List Param) (i : ℕ) → length xs ≤ i → sizes.of_params (params_of_list (drop i xs)) ≡ sizes.none
unfolding sizes.of_params
no_params_left xs i le = ap (λ (l : List Param). sizes.of_params (params_of_list l)) (drop_all i xs le)

pub functions_left : (table : List ℕ → Size) (xs : List FunctionDef) (i : ℕ) (x : FunctionDef) → i < length xs → x ≡ get_or xs i x
    → sizes.of_functions table (functions_of_list (drop i xs)) ≡ sizes.beside (sizes.above (sizes.beside (sizes.of_params (params_of_list x.params.items)) (sizes.of_stmts table (stmts_of x.body.items)))) (sizes.of_functions table (functions_of_list (drop (i + 1) xs)))
unfolding sizes.of_functions
functions_left table xs i x lt is = ap (λ (l : List FunctionDef). sizes.of_functions table (functions_of_list l)) (drop_here xs i x lt is)

pub no_functions_left : (table : List ℕ → Size) (xs : List FunctionDef) (i : ℕ) → length xs ≤ i → sizes.of_functions table (functions_of_list (drop i xs)) ≡ sizes.none
unfolding sizes.of_functions
no_functions_left table xs i le = ap (λ (l : List FunctionDef). sizes.of_functions table (functions_of_list l)) (drop_all i xs le)
