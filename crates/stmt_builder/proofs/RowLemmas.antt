-- Rows that grow at their end.
use Rattle.std.proofs.Common.{◌≡◌, ℕ, List, [], ◌∷◌, ◌++◌, refl, ap, ◌∙◌, arith}
use Rattle.std.specs.Prelude.{Option, Some, None, max}
use Rattle.std.specs.declared.vec.Vec.{Vec}
use Rattle.std.specs.declared.alloc.Global.{Global}
use Rattle.php_syntax.specs.declared.tree.Expr.{Expr}
use Rattle.php_syntax.specs.declared.tree.Stmt.{Stmt}
use Rattle.php_syntax.specs.declared.tree.Param.{Param}
use Rattle.php_syntax.specs.declared.tree.FunctionDef.{FunctionDef}
use Rattle.php_syntax.specs.Trees.{PlainExprs, no_exprs, more_exprs, more_stmts, PlainArms, no_arms, more_arms, plain_expr, plain_stmt, plain_param, plain_function, exprs_of, stmts_of, arms_of, params_of_list, functions_of_list}
use Rattle.expr_machine.specs.Values.{known_value, add_expr}
use Rattle.stmt_machine.specs.Made.{add_stmt, add_arm, add_param, add_function}

-- expressions before others
abbrev pub exprs_then : List Expr → PlainExprs → PlainExprs
exprs_then [] rest = rest
exprs_then (e ∷ es) rest = more_exprs (plain_expr e) (exprs_then es rest)

abbrev pub exprs_ahead : List Expr → ℕ → Option (PlainExprs × ℕ) → Option (PlainExprs × ℕ)
exprs_ahead es h None = None
exprs_ahead es h (Some rest) = Some (exprs_then es rest.0, max h rest.1)

exprs_then_push : (es : List Expr) (e : Expr) (rest : PlainExprs) → exprs_then (es ++ e ∷ []) rest ≡ exprs_then es (more_exprs (plain_expr e) rest)
exprs_then_push [] e rest = refl
exprs_then_push (f ∷ es) e rest = ap (more_exprs (plain_expr f)) (exprs_then_push es e rest)

exprs_then_none : (es : List Expr) → exprs_then es no_exprs ≡ exprs_of es
exprs_then_none [] = refl
exprs_then_none (e ∷ es) = ap (more_exprs (plain_expr e)) (exprs_then_none es)

pub max_three : (a b c : ℕ) → max (max a b) c ≡ max a (max b c)
max_three a b c = omega arith

pub max_none : (a : ℕ) → max a 0 ≡ a
max_none a = omega arith

pub exprs_ahead_push : (es : List Expr) (h : ℕ) (e : Expr) (own : ℕ) (rest : Option (PlainExprs × ℕ)) → exprs_ahead (es ++ e ∷ []) (max h own) rest ≡ exprs_ahead es h (add_expr (known_value (plain_expr e) own) rest)
exprs_ahead_push es h e own None = refl
exprs_ahead_push es h e own (Some rest) = ap (λ x. Some (x, max (max h own) rest.1)) (exprs_then_push es e rest.0) ∙ ap (λ x. Some (exprs_then es (more_exprs (plain_expr e) rest.0), x)) (max_three h own rest.1)

pub exprs_ahead_none : (es : List Expr) (h : ℕ) → exprs_ahead es h (Some (no_exprs, 0)) ≡ Some (exprs_of es, h)
exprs_ahead_none es h = ap (λ x. Some (x, max h 0)) (exprs_then_none es) ∙ ap (λ x. Some (exprs_of es, x)) (max_none h)

-- arms before others
abbrev pub arms_then : List (Expr × Vec Stmt Global) → PlainArms → PlainArms
arms_then [] rest = rest
arms_then (a ∷ as_) rest = more_arms (plain_expr a.0) (stmts_of a.1.items) (arms_then as_ rest)

abbrev pub arms_ahead : List (Expr × Vec Stmt Global) → ℕ → Option (PlainArms × ℕ) → Option (PlainArms × ℕ)
arms_ahead arms h None = None
arms_ahead arms h (Some rest) = Some (arms_then arms rest.0, max h rest.1)

arms_then_push : (arms : List (Expr × Vec Stmt Global)) (a : Expr × Vec Stmt Global) (rest : PlainArms) → arms_then (arms ++ a ∷ []) rest ≡ arms_then arms (more_arms (plain_expr a.0) (stmts_of a.1.items) rest)
arms_then_push [] a rest = refl
arms_then_push (b ∷ arms) a rest = ap (more_arms (plain_expr b.0) (stmts_of b.1.items)) (arms_then_push arms a rest)

arms_then_none : (arms : List (Expr × Vec Stmt Global)) → arms_then arms no_arms ≡ arms_of arms
arms_then_none [] = refl
arms_then_none (a ∷ arms) = ap (more_arms (plain_expr a.0) (stmts_of a.1.items)) (arms_then_none arms)

max_four : (a b c d : ℕ) → max (max a (max b c)) d ≡ max a (max b (max c d))
max_four a b c d = omega arith

pub arms_ahead_push : (arms : List (Expr × Vec Stmt Global)) (h : ℕ) (a : Expr × Vec Stmt Global) (own own_row : ℕ) (rest : Option (PlainArms × ℕ)) → arms_ahead (arms ++ a ∷ []) (max h (max own own_row)) rest ≡ arms_ahead arms h (add_arm (known_value (plain_expr a.0) own) (Some (stmts_of a.1.items, own_row)) rest)
arms_ahead_push arms h a own own_row None = refl
arms_ahead_push arms h a own own_row (Some rest) = ap (λ x. Some (x, max (max h (max own own_row)) rest.1)) (arms_then_push arms a rest.0) ∙ ap (λ x. Some (arms_then arms (more_arms (plain_expr a.0) (stmts_of a.1.items) rest.0), x)) (max_four h own own_row rest.1)

pub arms_ahead_none : (arms : List (Expr × Vec Stmt Global)) (h : ℕ) → arms_ahead arms h (Some (no_arms, 0)) ≡ Some (arms_of arms, h)
arms_ahead_none arms h = ap (λ x. Some (x, max h 0)) (arms_then_none arms) ∙ ap (λ x. Some (arms_of arms, x)) (max_none h)

-- one more statement, parameter and function
pub stmts_push : (ss : List Stmt) (s : Stmt) → stmts_of (ss ++ s ∷ []) ≡ add_stmt (stmts_of ss) (plain_stmt s)
stmts_push [] s = refl
stmts_push (t ∷ ss) s = ap (more_stmts (plain_stmt t)) (stmts_push ss s)

pub params_push : (ps : List Param) (p : Param) → params_of_list (ps ++ p ∷ []) ≡ add_param (params_of_list ps) (plain_param p)
params_push [] p = refl
params_push (q ∷ ps) p = ap (◌∷◌ (plain_param q)) (params_push ps p)

pub functions_push : (fs : List FunctionDef) (f : FunctionDef) → functions_of_list (fs ++ f ∷ []) ≡ add_function (functions_of_list fs) (plain_function f)
functions_push [] f = refl
functions_push (g ∷ fs) f = ap (◌∷◌ (plain_function g)) (functions_push fs f)

pub ruleset row_lemmas = (
  exprs_ahead_push,
  exprs_ahead_none,
  arms_ahead_push,
  arms_ahead_none,
)
