-- The plain form of an expression by its parts, wherever they lie in memory.
use Rattle.std.proofs.Common.{◌≡◌, ℕ, List, [], ◌∷◌, refl, sym, ap, ◌∙◌, arith, length, ◌⊎◌, inl, inr}
use Rattle.std.specs.Prelude.{Option}
use Rattle.php_syntax.specs.declared.tree.Expr.{Expr}
use Rattle.php_syntax.specs.Trees.{PlainExpr, PlainExprs, PlainPath, MaybeExpr, choice_expr, plain_expr, exprs_of, path_of}

pub one : (p : PlainExpr) (a x : Expr) (make : PlainExpr → PlainExpr) → p ≡ make (plain_expr x) → a ≡ x → p ≡ make (plain_expr a)
one p a x make h e = h ∙ ap (λ y. make (plain_expr y)) (sym e)

pub two : (p : PlainExpr) (a b x y : Expr) (make : PlainExpr → PlainExpr → PlainExpr) → p ≡ make (plain_expr x) (plain_expr y) → a ≡ x → b ≡ y → p ≡ make (plain_expr a) (plain_expr b)
two p a b x y make h e d = h ∙ ap (λ z. make (plain_expr z) (plain_expr y)) (sym e) ∙ ap (λ z. make (plain_expr a) (plain_expr z)) (sym d)

pub listed : (p : PlainExpr) (es xs : List Expr) (make : PlainExprs → PlainExpr) → p ≡ make (exprs_of xs) → es ≡ xs → p ≡ make (exprs_of es)
listed p es xs make h e = h ∙ ap (λ y. make (exprs_of y)) (sym e)

pub chosen : (p : PlainExpr) (a b x y : Expr) (c d : MaybeExpr) → p ≡ choice_expr (plain_expr x) d (plain_expr y) → a ≡ x → c ≡ d → b ≡ y → p ≡ choice_expr (plain_expr a) c (plain_expr b)
chosen p a b x y c d h e k f = rw (e, k, f) h

pub targeted : (p : PlainExpr) (n : List ℕ) (ks keys : List (Option Expr)) (b v : Expr) (make : List ℕ → PlainPath → PlainExpr → PlainExpr) → p ≡ make n (path_of keys) (plain_expr v) → ks ≡ keys → b ≡ v → p ≡ make n (path_of ks) (plain_expr b)
targeted p n ks keys b v make h e d = h ∙ ap (λ y. make n (path_of y) (plain_expr v)) (sym e) ∙ ap (λ y. make n (path_of ks) (plain_expr y)) (sym d)

pub empty_of : {A : Type 0} (xs : List A) → length xs ≡ 0 → xs ≡ []
empty_of [] h = refl
empty_of (x ∷ xs) h = absurd (omega arith)

pub other_fault : {P Q : Type 0} → P ⊎ Q → (P → ⊥) → Q
other_fault (inl p) n = absurd (n p)
other_fault (inr q) n = q
