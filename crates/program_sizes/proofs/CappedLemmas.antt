-- Sizes of statements agree as far as they show where the sizes for their includes do.
use Rattle.std.proofs.Common.{◌≡◌, ℕ, ◌+◌, ◌-◌, ◌^◌, max, min, List, [], ◌∷◌, ◌++◌, refl, ap, arith}
use Rattle.std.specs.List.{Contains}
use Rattle.std.proofs.lemmas.List.Elements.{Contains-append_left, Contains-append_right}
use Rattle.php_syntax.specs.Trees.{PlainStmt, inline_stmt, echo_stmt, run_stmt, if_stmt, while_stmt, do_while_stmt, for_stmt, each_stmt, break_stmt, continue_stmt, return_stmt, include_stmt, quit_stmt, PlainStmts, no_stmts, more_stmts, PlainArms, no_arms, more_arms, PlainFunction}
use Rattle.program_rules.specs.Includes.{includes_in, includes_of, includes_in_arms, includes_in_functions}
use Rattle.program_sizes.specs.declared.size.Size.{Size}
use Rattle.program_sizes.specs.Sizes as sizes
use Rattle.program_sizes.proofs.SizeLemmas.{same_size}

cap_plus : (a b c d : ℕ) → min a (2 ^ 64 - 1) ≡ min b (2 ^ 64 - 1) → min c (2 ^ 64 - 1) ≡ min d (2 ^ 64 - 1) → min (a + c) (2 ^ 64 - 1) ≡ min (b + d) (2 ^ 64 - 1)
cap_plus a b c d e f = omega arith

cap_max : (a b c d : ℕ) → min a (2 ^ 64 - 1) ≡ min b (2 ^ 64 - 1) → min c (2 ^ 64 - 1) ≡ min d (2 ^ 64 - 1) → min (max a c) (2 ^ 64 - 1) ≡ min (max b d) (2 ^ 64 - 1)
cap_max a b c d e f = omega arith

cap_one : (a b : ℕ) → min a (2 ^ 64 - 1) ≡ min b (2 ^ 64 - 1) → min (1 + a) (2 ^ 64 - 1) ≡ min (1 + b) (2 ^ 64 - 1)
cap_one a b e = omega arith

-- what shows of two sizes is the same
record Same (a b : Size) : Type 0 where
  pub places : min a.places (2 ^ 64 - 1) ≡ min b.places (2 ^ 64 - 1)
  pub nodes : min a.nodes (2 ^ 64 - 1) ≡ min b.nodes (2 ^ 64 - 1)
  pub height : min a.height (2 ^ 64 - 1) ≡ min b.height (2 ^ 64 - 1)

same_of : (a b : Size) → sizes.capped a ≡ sizes.capped b → Same a b
unfolding sizes.capped
same_of a b e = record { places = ap (λ (s : Size). s.places) e; nodes = ap (λ (s : Size). s.nodes) e; height = ap (λ (s : Size). s.height) e }

of_same : (a b : Size) → Same a b → sizes.capped a ≡ sizes.capped b
unfolding sizes.capped
of_same a b s = same_size (sizes.capped a) (sizes.capped b) s.places s.nodes s.height

same : (a : Size) → Same a a
same a = record { places = refl; nodes = refl; height = refl }

beside : (a b c d : Size) → Same a b → Same c d → Same (sizes.beside a c) (sizes.beside b d)
beside a b c d s t = record {
  places = cap_plus a.places b.places c.places d.places s.places t.places;
  nodes = cap_plus a.nodes b.nodes c.nodes d.nodes s.nodes t.nodes;
  height = cap_max a.height b.height c.height d.height s.height t.height;
}

above : (a b : Size) → Same a b → Same (sizes.above a) (sizes.above b)
above a b s = record { places = s.places; nodes = cap_one a.nodes b.nodes s.nodes; height = cap_one a.height b.height s.height }

included : (a b : Size) → Same a b → Same (sizes.included a) (sizes.included b)
included a b s = record { places = cap_one a.places b.places s.places; nodes = s.nodes; height = s.height }

-- two tables agree on some paths as far as they show
abbrev Agree : (List ℕ → Size) → (List ℕ → Size) → List (List ℕ) → Type 0
Agree t u paths = (path : List ℕ) → Contains paths path → Same (t path) (u path)

left : (t u : List ℕ → Size) (xs ys : List (List ℕ)) → Agree t u (xs ++ ys) → Agree t u xs
left t u xs ys h path c = h path (Contains-append_left xs ys path c)

right : (t u : List ℕ → Size) (xs ys : List (List ℕ)) → Agree t u (xs ++ ys) → Agree t u ys
right t u xs ys h path c = h path (Contains-append_right xs ys path c)

mutual
  unfolding includes_in sizes.of_stmts

  same_stmts : (t u : List ℕ → Size) (ss : PlainStmts) → Agree t u (includes_in ss) → Same (sizes.of_stmts t ss) (sizes.of_stmts u ss)
  same_stmts t u no_stmts h = same sizes.none
  same_stmts t u (more_stmts s ss) h =
      beside (sizes.of_stmt t s) (sizes.of_stmt u s) (sizes.of_stmts t ss) (sizes.of_stmts u ss) (same_stmt t u s (left t u (includes_of s) (includes_in ss) h)) (same_stmts t u ss (right t u (includes_of s) (includes_in ss) h))

  same_stmt : (t u : List ℕ → Size) (s : PlainStmt) → Agree t u (includes_of s) → Same (sizes.of_stmt t s) (sizes.of_stmt u s)
  same_stmt t u (inline_stmt x) h = same (sizes.above sizes.none)
  same_stmt t u (echo_stmt es) h = same (sizes.above (sizes.of_exprs es))
  same_stmt t u (run_stmt e) h = same (sizes.above (sizes.of_expr e))
  same_stmt t u (if_stmt a ss) h =
      above (sizes.beside (sizes.of_arms t a) (sizes.of_stmts t ss)) (sizes.beside (sizes.of_arms u a) (sizes.of_stmts u ss))
      (beside (sizes.of_arms t a) (sizes.of_arms u a) (sizes.of_stmts t ss) (sizes.of_stmts u ss) (same_arms t u a (left t u (includes_in_arms a) (includes_in ss) h)) (same_stmts t u ss (right t u (includes_in_arms a) (includes_in ss) h)))
  same_stmt t u (while_stmt e ss) h =
      above (sizes.beside (sizes.of_expr e) (sizes.of_stmts t ss)) (sizes.beside (sizes.of_expr e) (sizes.of_stmts u ss)) (beside (sizes.of_expr e) (sizes.of_expr e) (sizes.of_stmts t ss) (sizes.of_stmts u ss) (same (sizes.of_expr e)) (same_stmts t u ss h))
  same_stmt t u (do_while_stmt ss e) h =
      above (sizes.beside (sizes.of_stmts t ss) (sizes.of_expr e)) (sizes.beside (sizes.of_stmts u ss) (sizes.of_expr e)) (beside (sizes.of_stmts t ss) (sizes.of_stmts u ss) (sizes.of_expr e) (sizes.of_expr e) (same_stmts t u ss h) (same (sizes.of_expr e)))
  same_stmt t u (for_stmt begin e next ss) h =
      let head = sizes.beside (sizes.beside (sizes.of_exprs begin) (sizes.of_maybe e)) (sizes.of_exprs next) in
      above (sizes.beside head (sizes.of_stmts t ss)) (sizes.beside head (sizes.of_stmts u ss)) (beside head head (sizes.of_stmts t ss) (sizes.of_stmts u ss) (same head) (same_stmts t u ss h))
  same_stmt t u (each_stmt e k x ss) h =
      above (sizes.beside (sizes.of_expr e) (sizes.of_stmts t ss)) (sizes.beside (sizes.of_expr e) (sizes.of_stmts u ss)) (beside (sizes.of_expr e) (sizes.of_expr e) (sizes.of_stmts t ss) (sizes.of_stmts u ss) (same (sizes.of_expr e)) (same_stmts t u ss h))
  same_stmt t u break_stmt h = same (sizes.above sizes.none)
  same_stmt t u continue_stmt h = same (sizes.above sizes.none)
  same_stmt t u (return_stmt e) h = same (sizes.above (sizes.of_maybe e))
  same_stmt t u (include_stmt path) h = included (t path) (u path) (h path (0, omega arith, refl))
  same_stmt t u (quit_stmt e) h = same (sizes.above (sizes.of_maybe e))

  same_arms : (t u : List ℕ → Size) (a : PlainArms) → Agree t u (includes_in_arms a) → Same (sizes.of_arms t a) (sizes.of_arms u a)
  same_arms t u no_arms h = same sizes.none
  same_arms t u (more_arms e ss a) h =
      beside (sizes.beside (sizes.of_expr e) (sizes.of_stmts t ss)) (sizes.beside (sizes.of_expr e) (sizes.of_stmts u ss)) (sizes.of_arms t a) (sizes.of_arms u a)
      (beside (sizes.of_expr e) (sizes.of_expr e) (sizes.of_stmts t ss) (sizes.of_stmts u ss) (same (sizes.of_expr e)) (same_stmts t u ss (left t u (includes_in ss) (includes_in_arms a) h)))
      (same_arms t u a (right t u (includes_in ss) (includes_in_arms a) h))

pub capped_stmts : (t u : List ℕ → Size) (ss : PlainStmts) → ((path : List ℕ) → Contains (includes_in ss) path → sizes.capped (t path) ≡ sizes.capped (u path)) → sizes.capped (sizes.of_stmts t ss) ≡ sizes.capped (sizes.of_stmts u ss)
capped_stmts t u ss h = of_same (sizes.of_stmts t ss) (sizes.of_stmts u ss) (same_stmts t u ss (λ path c. same_of (t path) (u path) (h path c)))

same_functions : (t u : List ℕ → Size) (fs : List PlainFunction) → Agree t u (includes_in_functions fs) → Same (sizes.of_functions t fs) (sizes.of_functions u fs)
unfolding includes_in_functions sizes.of_functions
same_functions t u [] h = same sizes.none
same_functions t u (f ∷ fs) h =
    let params = sizes.of_params f.params_of in
    beside (sizes.above (sizes.beside params (sizes.of_stmts t f.body_of))) (sizes.above (sizes.beside params (sizes.of_stmts u f.body_of))) (sizes.of_functions t fs) (sizes.of_functions u fs)
    (above (sizes.beside params (sizes.of_stmts t f.body_of)) (sizes.beside params (sizes.of_stmts u f.body_of))
    (beside params params (sizes.of_stmts t f.body_of) (sizes.of_stmts u f.body_of) (same params) (same_stmts t u f.body_of (left t u (includes_in f.body_of) (includes_in_functions fs) h))))
    (same_functions t u fs (right t u (includes_in f.body_of) (includes_in_functions fs) h))

-- and those of a program
pub capped_program : (t u : List ℕ → Size) (ss : PlainStmts) (fs : List PlainFunction) → ((path : List ℕ) → Contains (includes_in ss ++ includes_in_functions fs) path → sizes.capped (t path) ≡ sizes.capped (u path))
    → sizes.capped (sizes.above (sizes.beside (sizes.of_stmts t ss) (sizes.of_functions t fs))) ≡ sizes.capped (sizes.above (sizes.beside (sizes.of_stmts u ss) (sizes.of_functions u fs)))
capped_program t u ss fs h =
    let agree : Agree t u (includes_in ss ++ includes_in_functions fs) = λ path c. same_of (t path) (u path) (h path c) in
    of_same (sizes.above (sizes.beside (sizes.of_stmts t ss) (sizes.of_functions t fs))) (sizes.above (sizes.beside (sizes.of_stmts u ss) (sizes.of_functions u fs)))
    (above (sizes.beside (sizes.of_stmts t ss) (sizes.of_functions t fs)) (sizes.beside (sizes.of_stmts u ss) (sizes.of_functions u fs))
    (beside (sizes.of_stmts t ss) (sizes.of_stmts u ss) (sizes.of_functions t fs) (sizes.of_functions u fs)
    (same_stmts t u ss (left t u (includes_in ss) (includes_in_functions fs) agree)) (same_functions t u fs (right t u (includes_in ss) (includes_in_functions fs) agree))))
