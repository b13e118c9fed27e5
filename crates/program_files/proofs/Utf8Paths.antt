-- Each path of an include is UTF-8, by the rules of the grammar.
use Rattle.std.proofs.Common.{◌≡◌, ℕ, zero, suc, Bool, true, false, List, [], ◌∷◌, inl, inr, refl, subst, arith}
use Rattle.std.specs.Prelude.{◌&&◌}
use Rattle.std.specs.List.{Contains}
use Rattle.std.proofs.lemmas.List.Elements.{Contains-append_cases}
use Rattle.php_syntax.specs.Trees.{PlainStmt, inline_stmt, echo_stmt, run_stmt, if_stmt, while_stmt, do_while_stmt, for_stmt, each_stmt, break_stmt, continue_stmt, return_stmt, include_stmt, quit_stmt, PlainStmts, no_stmts, more_stmts, PlainArms, no_arms, more_arms, PlainFunction, PlainFile}
use Rattle.script_grammar.specs.Rules.{is_utf8, is_writable, maybe_writable, expr_fits, maybe_fits, exprs_fit, stmt_fits, stmts_fit, arms_fit, params_fit, functions_fit, file_fits}
use Rattle.program_rules.specs.Includes.{includes_in, includes_of, includes_in_arms, includes_in_functions, includes_of_file}

left : (a b : Bool) → (a && b) ≡ true → a ≡ true
left true b e = refl
left false b e = absurd (cc)

right : (a b : Bool) → (a && b) ≡ true → b ≡ true
right true b e = e
right false b e = absurd (cc)

none : (path : List ℕ) → Contains [] path → is_utf8 path ≡ true
none path c = absurd (let h = c.1 in omega arith)

own : (t path : List ℕ) → is_utf8 t ≡ true → Contains (t ∷ []) path → is_utf8 path ≡ true
own t path e (zero, lt, is) = subst (λ (x : List ℕ). is_utf8 x ≡ true) is e
own t path e (suc k, lt, is) = absurd (omega arith)

mutual
  unfolding includes_in stmt_fits

  in_stmts : (l f : Bool) (ss : PlainStmts) (path : List ℕ) → stmts_fit l f ss ≡ true → Contains (includes_in ss) path → is_utf8 path ≡ true
  in_stmts l f no_stmts path e c = none path c
  in_stmts l f (more_stmts s ss) path e c = elim (Contains-append_cases (includes_of s) (includes_in ss) path c) [
    | inl a ↦ in_stmt l f s path (left (stmt_fits l f s) (stmts_fit l f ss) e) a
    | inr b ↦ in_stmts l f ss path (right (stmt_fits l f s) (stmts_fit l f ss) e) b
  ]

  in_stmt : (l f : Bool) (s : PlainStmt) (path : List ℕ) → stmt_fits l f s ≡ true → Contains (includes_of s) path → is_utf8 path ≡ true
  in_stmt l f (inline_stmt t) path e c = none path c
  in_stmt l f (echo_stmt es) path e c = none path c
  in_stmt l f (run_stmt x) path e c = none path c
  in_stmt l f (if_stmt a ss) path e c = elim (Contains-append_cases (includes_in_arms a) (includes_in ss) path c) [
    | inl h ↦ in_arms l f a path (left (arms_fit l f a) (stmts_fit l f ss) e) h
    | inr h ↦ in_stmts l f ss path (right (arms_fit l f a) (stmts_fit l f ss) e) h
  ]
  in_stmt l f (while_stmt x ss) path e c = in_stmts true f ss path (right (expr_fits x) (stmts_fit true f ss) e) c
  in_stmt l f (do_while_stmt ss x) path e c = in_stmts true f ss path (left (stmts_fit true f ss) (expr_fits x) e) c
  in_stmt l f (for_stmt begin x more ss) path e c =
      in_stmts true f ss path (right (exprs_fit more) (stmts_fit true f ss) (right (maybe_fits x) (exprs_fit more && stmts_fit true f ss) (right (exprs_fit begin) (maybe_fits x && (exprs_fit more && stmts_fit true f ss)) e))) c
  in_stmt l f (each_stmt x k v ss) path e c =
      in_stmts true f ss path (right (is_writable v) (stmts_fit true f ss) (right (maybe_writable k) (is_writable v && stmts_fit true f ss) (right (expr_fits x) (maybe_writable k && (is_writable v && stmts_fit true f ss)) e))) c
  in_stmt l f break_stmt path e c = none path c
  in_stmt l f continue_stmt path e c = none path c
  in_stmt l f (return_stmt x) path e c = none path c
  in_stmt l f (include_stmt t) path e c = elim (Contains-append_cases [] (t ∷ []) path c) [ inl h ↦ none path h | inr h ↦ own t path e h ]
  in_stmt l f (quit_stmt x) path e c = none path c

  in_arms : (l f : Bool) (a : PlainArms) (path : List ℕ) → arms_fit l f a ≡ true → Contains (includes_in_arms a) path → is_utf8 path ≡ true
  in_arms l f no_arms path e c = none path c
  in_arms l f (more_arms x ss a) path e c =
      let rest = right (expr_fits x) (stmts_fit l f ss && arms_fit l f a) e in
      elim (Contains-append_cases (includes_in ss) (includes_in_arms a) path c) [
        | inl h ↦ in_stmts l f ss path (left (stmts_fit l f ss) (arms_fit l f a) rest) h
        | inr h ↦ in_arms l f a path (right (stmts_fit l f ss) (arms_fit l f a) rest) h
      ]

in_functions : (fs : List PlainFunction) (path : List ℕ) → functions_fit fs ≡ true → Contains (includes_in_functions fs) path → is_utf8 path ≡ true
unfolding includes_in_functions
in_functions [] path e c = none path c
in_functions (f ∷ fs) path e c =
    let rest = right (params_fit f.params_of) (stmts_fit false true f.body_of && functions_fit fs) e in
    elim (Contains-append_cases (includes_in f.body_of) (includes_in_functions fs) path c) [
      | inl h ↦ in_stmts false true f.body_of path (left (stmts_fit false true f.body_of) (functions_fit fs) rest) h
      | inr h ↦ in_functions fs path (right (stmts_fit false true f.body_of) (functions_fit fs) rest) h
    ]

pub in_file : (tree : PlainFile) (path : List ℕ) → file_fits tree ≡ true → Contains (includes_of_file tree) path → is_utf8 path ≡ true
unfolding includes_of_file
in_file tree path e c = elim (Contains-append_cases (includes_in tree.body_of) (includes_in_functions tree.functions_of) path c) [
  | inl h ↦ in_stmts false false tree.body_of path (left (stmts_fit false false tree.body_of) (functions_fit tree.functions_of) e) h
  | inr h ↦ in_functions tree.functions_of path (right (stmts_fit false false tree.body_of) (functions_fit tree.functions_of) e) h
]
