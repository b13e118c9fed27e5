-- Arms that are copied, before those that are left.
use Rattle.std.proofs.Common.{◌≡◌, ◌∙◌, ℕ, drop, ◌≤◌, ◌+◌, ◌<◌, List, [], ◌∷◌, ◌++◌, length, get_or, refl, sym, ap}
use Rattle.std.proofs.lemmas.List.{drop_all}
use Rattle.tree_walks.proofs.CopyLemmas.{drop_here}
use Rattle.std.specs.declared.vec.Vec.{Vec}
use Rattle.std.specs.declared.alloc.Global.{Global}
use Rattle.php_syntax.specs.declared.tree.Expr.{Expr}
use Rattle.php_syntax.specs.declared.tree.Stmt.{Stmt}
use Rattle.php_syntax.specs.Trees.{PlainStmts, PlainArms, no_arms, more_arms, plain_expr, stmts_of, arms_of}
use Rattle.program_rules.specs.Bodies.{with_bodies, with_bodies_in_arms}

abbrev pub Arm : Type 0
Arm = Expr × Vec Stmt Global

abbrev pub arms_then : List Arm → PlainArms → PlainArms
arms_then [] rest = rest
arms_then (a ∷ as') rest = more_arms (plain_expr a.0) (stmts_of a.1.items) (arms_then as' rest)

arms_then_push : (xs : List Arm) (x : Arm) (rest : PlainArms) → arms_then (xs ++ x ∷ []) rest ≡ arms_then xs (more_arms (plain_expr x.0) (stmts_of x.1.items) rest)
arms_then_push [] x rest = refl
arms_then_push (y ∷ ys) x rest = ap (more_arms (plain_expr y.0) (stmts_of y.1.items)) (arms_then_push ys x rest)

arms_then_none : (xs : List Arm) → arms_then xs no_arms ≡ arms_of xs
arms_then_none [] = refl
arms_then_none (y ∷ ys) = ap (more_arms (plain_expr y.0) (stmts_of y.1.items)) (arms_then_none ys)

pub arms_step : (bodies : List ℕ → PlainStmts) (xs old new : List Arm) (i : ℕ) (x : Arm) (test : Expr) (body : Vec Stmt Global) → i < length xs → x ≡ get_or xs i x → plain_expr test ≡ plain_expr x.0 → stmts_of body.items ≡ with_bodies bodies (stmts_of x.1.items)
    → new ≡ old ++ (test, body) ∷ [] → arms_then old (with_bodies_in_arms bodies (arms_of (drop i xs))) ≡ with_bodies_in_arms bodies (arms_of xs) → arms_then new (with_bodies_in_arms bodies (arms_of (drop (i + 1) xs))) ≡ with_bodies_in_arms bodies (arms_of xs)
unfolding with_bodies
arms_step bodies xs old new i x test body lt is same_test same push inv =
    let rest = with_bodies_in_arms bodies (arms_of (drop (i + 1) xs)) in
    ap (λ (v : List Arm). arms_then v rest) push ∙ arms_then_push old (test, body) rest ∙ ap (λ p. arms_then old (more_arms p (stmts_of body.items) rest)) same_test
    ∙ ap (λ (p : PlainStmts). arms_then old (more_arms (plain_expr x.0) p rest)) same
    ∙ sym (ap (λ (l : List Arm). arms_then old (with_bodies_in_arms bodies (arms_of l))) (drop_here xs i x lt is)) ∙ inv

pub arms_begin : (bodies : List ℕ → PlainStmts) (xs none : List Arm) → none ≡ [] → arms_then none (with_bodies_in_arms bodies (arms_of (drop 0 xs))) ≡ with_bodies_in_arms bodies (arms_of xs)
arms_begin bodies [] none e = ap (λ (v : List Arm). arms_then v (with_bodies_in_arms bodies no_arms)) e
arms_begin bodies (x ∷ xs) none e = ap (λ (v : List Arm). arms_then v (with_bodies_in_arms bodies (arms_of (x ∷ xs)))) e

pub arms_end : (bodies : List ℕ → PlainStmts) (xs old : List Arm) (i : ℕ) → length xs ≤ i → arms_then old (with_bodies_in_arms bodies (arms_of (drop i xs))) ≡ with_bodies_in_arms bodies (arms_of xs) → arms_of old ≡ with_bodies_in_arms bodies (arms_of xs)
unfolding with_bodies
arms_end bodies xs old i le inv = sym (arms_then_none old) ∙ sym (ap (λ (l : List Arm). arms_then old (with_bodies_in_arms bodies (arms_of l))) (drop_all i xs le)) ∙ inv
