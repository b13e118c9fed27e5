-- The size of statements by their parts is that of what they stand for.
use Rattle.std.proofs.Common.{◌≡◌, ◌∙◌, ℕ, ◌+◌, max, List, [], ◌∷◌, ◌++◌, map, refl, sym, ap, arith}
use Rattle.php_syntax.specs.Trees.{PlainStmt, inline_stmt, echo_stmt, run_stmt, if_stmt, while_stmt, do_while_stmt, for_stmt, each_stmt, break_stmt, continue_stmt, return_stmt, include_stmt, quit_stmt, PlainStmts, no_stmts, more_stmts, PlainArms, no_arms, more_arms, PlainParam, PlainFunction}
use Rattle.php_syntax.specs.Height.{stmt_nodes, stmts_nodes, arms_nodes, stmt_height, stmts_height, arms_height, params_nodes, params_height, functions_nodes, functions_height, file_nodes, file_height}
use Rattle.program_rules.specs.Includes.{includes_in, includes_of, includes_in_arms}
use Rattle.program_rules.specs.Bodies.{followed_by, with_bodies, with_bodies_in, with_bodies_in_arms, with_body}
use Rattle.program_rules.specs.Limits.{one_each}
use Rattle.program_rules.specs.Programs.{ReadFile}
use Rattle.include_expansion.specs.Within.{bodies_within, places_within}
use Rattle.program_sizes.specs.declared.size.Size.{Size}
use Rattle.program_sizes.specs.Sizes as sizes
use Rattle.program_sizes.specs.Bodies.{of_body, body_of_path}
use Rattle.program_sizes.specs.Limits.{function_places}
use Rattle.program_sizes.proofs.SizeLemmas.{same_size, beside_assoc, none_beside}

nodes_followed : (a b : PlainStmts) → stmts_nodes (followed_by a b) ≡ stmts_nodes a + stmts_nodes b
unfolding stmt_nodes followed_by
nodes_followed no_stmts b = omega arith
nodes_followed (more_stmts s ss) b = let h = nodes_followed ss b in omega arith

height_followed : (a b : PlainStmts) → stmts_height (followed_by a b) ≡ max (stmts_height a) (stmts_height b)
unfolding stmt_height followed_by
height_followed no_stmts b = omega arith
height_followed (more_stmts s ss) b = let h = height_followed ss b in omega arith

places_append : (counts : List ℕ → ℕ) (xs ys : List (List ℕ)) → one_each counts (xs ++ ys) ≡ one_each counts xs + one_each counts ys
unfolding one_each
places_append counts [] ys = omega arith
places_append counts (x ∷ xs) ys = let h = places_append counts xs ys in omega arith

beside_bodies : (counts : List ℕ → ℕ) (xs ys : List (List ℕ)) (a b : PlainStmts) → sizes.beside (of_body (one_each counts xs) a) (of_body (one_each counts ys) b) ≡ of_body (one_each counts (xs ++ ys)) (followed_by a b)
beside_bodies counts xs ys a b =
    same_size (sizes.beside (of_body (one_each counts xs) a) (of_body (one_each counts ys) b)) (of_body (one_each counts (xs ++ ys)) (followed_by a b)) (sym (places_append counts xs ys)) (sym (nodes_followed a b)) (sym (height_followed a b))

alone : (size : Size) (p : ℕ) (s : PlainStmt) → size.places ≡ p → size.nodes ≡ stmt_nodes s → size.height ≡ stmt_height s → size ≡ of_body p (more_stmts s no_stmts)
unfolding stmt_nodes stmt_height
alone size p s e f g = same_size size (of_body p (more_stmts s no_stmts)) e (omega arith) (omega arith)

-- of arms
abbrev of_arms : ℕ → PlainArms → Size
of_arms places a = record { places = places; nodes = arms_nodes a; height = arms_height a }

-- what two parts of a statement have
three : (a b c d : ℕ) → a ≡ b + c → a + d ≡ b + c + d
three a b c d e = omega arith

mutual
  unfolding includes_in with_bodies one_each sizes.of_stmts stmt_nodes stmt_height

  stmts_sized : (counts : List ℕ → ℕ) (bodies : List ℕ → PlainStmts) (ss : PlainStmts) → sizes.of_stmts (λ path. of_body (counts path) (bodies path)) ss ≡ of_body (one_each counts (includes_in ss)) (with_bodies bodies ss)
  stmts_sized counts bodies no_stmts = refl
  stmts_sized counts bodies (more_stmts s ss) =
      ap (λ (x : Size). sizes.beside x (sizes.of_stmts (λ path. of_body (counts path) (bodies path)) ss)) (stmt_sized counts bodies s)
      ∙ ap (sizes.beside (of_body (one_each counts (includes_of s)) (with_bodies_in bodies s))) (stmts_sized counts bodies ss)
      ∙ beside_bodies counts (includes_of s) (includes_in ss) (with_bodies_in bodies s) (with_bodies bodies ss)

  stmt_sized : (counts : List ℕ → ℕ) (bodies : List ℕ → PlainStmts) (s : PlainStmt) → sizes.of_stmt (λ path. of_body (counts path) (bodies path)) s ≡ of_body (one_each counts (includes_of s)) (with_bodies_in bodies s)
  stmt_sized counts bodies (inline_stmt t) = refl
  stmt_sized counts bodies (echo_stmt es) = alone (sizes.above (sizes.of_exprs es)) 0 (echo_stmt es) refl refl refl
  stmt_sized counts bodies (run_stmt e) = alone (sizes.above (sizes.of_expr e)) 0 (run_stmt e) refl refl refl
  stmt_sized counts bodies (if_stmt a ss) =
      let inner = of_body (one_each counts (includes_in ss)) (with_bodies bodies ss) in
      let first = of_arms (one_each counts (includes_in_arms a)) (with_bodies_in_arms bodies a) in
      ap (λ (x : Size). sizes.above (sizes.beside x (sizes.of_stmts (λ path. of_body (counts path) (bodies path)) ss))) (arms_sized counts bodies a)
      ∙ ap (λ (x : Size). sizes.above (sizes.beside first x)) (stmts_sized counts bodies ss)
      ∙ alone (sizes.above (sizes.beside first inner)) (one_each counts (includes_in_arms a ++ includes_in ss)) (if_stmt (with_bodies_in_arms bodies a) (with_bodies bodies ss)) (sym (places_append counts (includes_in_arms a) (includes_in ss)))
      (omega arith) refl
  stmt_sized counts bodies (while_stmt e ss) =
      let inner = of_body (one_each counts (includes_in ss)) (with_bodies bodies ss) in
      ap (λ (x : Size). sizes.above (sizes.beside (sizes.of_expr e) x)) (stmts_sized counts bodies ss)
      ∙ alone (sizes.above (sizes.beside (sizes.of_expr e) inner)) (one_each counts (includes_in ss)) (while_stmt e (with_bodies bodies ss)) (omega arith) (omega arith) refl
  stmt_sized counts bodies (do_while_stmt ss e) =
      let inner = of_body (one_each counts (includes_in ss)) (with_bodies bodies ss) in
      ap (λ (x : Size). sizes.above (sizes.beside x (sizes.of_expr e))) (stmts_sized counts bodies ss)
      ∙ alone (sizes.above (sizes.beside inner (sizes.of_expr e))) (one_each counts (includes_in ss)) (do_while_stmt (with_bodies bodies ss) e) (omega arith) (omega arith) refl
  stmt_sized counts bodies (for_stmt begin e next ss) =
      let inner = of_body (one_each counts (includes_in ss)) (with_bodies bodies ss) in
      let head = sizes.beside (sizes.beside (sizes.of_exprs begin) (sizes.of_maybe e)) (sizes.of_exprs next) in
      ap (λ (x : Size). sizes.above (sizes.beside head x)) (stmts_sized counts bodies ss)
      ∙ alone (sizes.above (sizes.beside head inner)) (one_each counts (includes_in ss)) (for_stmt begin e next (with_bodies bodies ss)) (omega arith) (omega arith) (omega arith)
  stmt_sized counts bodies (each_stmt e k x ss) =
      let inner = of_body (one_each counts (includes_in ss)) (with_bodies bodies ss) in
      ap (λ (y : Size). sizes.above (sizes.beside (sizes.of_expr e) y)) (stmts_sized counts bodies ss)
      ∙ alone (sizes.above (sizes.beside (sizes.of_expr e) inner)) (one_each counts (includes_in ss)) (each_stmt e k x (with_bodies bodies ss)) (omega arith) (omega arith) refl
  stmt_sized counts bodies break_stmt = refl
  stmt_sized counts bodies continue_stmt = refl
  stmt_sized counts bodies (return_stmt e) = alone (sizes.above (sizes.of_maybe e)) 0 (return_stmt e) refl refl refl
  stmt_sized counts bodies (include_stmt path) = same_size (sizes.included (of_body (counts path) (bodies path))) (of_body (one_each counts (path ∷ [])) (bodies path)) (omega arith) refl refl
  stmt_sized counts bodies (quit_stmt e) = alone (sizes.above (sizes.of_maybe e)) 0 (quit_stmt e) refl refl refl

  arms_sized : (counts : List ℕ → ℕ) (bodies : List ℕ → PlainStmts) (a : PlainArms) → sizes.of_arms (λ path. of_body (counts path) (bodies path)) a ≡ of_arms (one_each counts (includes_in_arms a)) (with_bodies_in_arms bodies a)
  arms_sized counts bodies no_arms = refl
  arms_sized counts bodies (more_arms e ss a) =
      let inner = of_body (one_each counts (includes_in ss)) (with_bodies bodies ss) in
      let rest = of_arms (one_each counts (includes_in_arms a)) (with_bodies_in_arms bodies a) in
      ap (λ (x : Size). sizes.beside (sizes.beside (sizes.of_expr e) x) (sizes.of_arms (λ path. of_body (counts path) (bodies path)) a)) (stmts_sized counts bodies ss)
      ∙ ap (sizes.beside (sizes.beside (sizes.of_expr e) inner)) (arms_sized counts bodies a)
      ∙ same_size (sizes.beside (sizes.beside (sizes.of_expr e) inner) rest) (of_arms (one_each counts (includes_in ss ++ includes_in_arms a)) (more_arms e (with_bodies bodies ss) (with_bodies_in_arms bodies a)))
      (let h = places_append counts (includes_in ss) (includes_in_arms a) in omega arith) refl (omega arith)

params_sized : (ps : List PlainParam) → sizes.of_params ps ≡ sizes.of (params_nodes ps) (params_height ps)
unfolding sizes.of_params
params_sized [] = refl
params_sized (p ∷ ps) = ap (sizes.beside (sizes.above (sizes.of_maybe p.default_of))) (params_sized ps)

-- of functions
abbrev of_functions : ℕ → List PlainFunction → Size
of_functions places fs = record { places = places; nodes = functions_nodes fs; height = functions_height fs }

functions_sized : (files : List ReadFile) (n : ℕ) (fs : List PlainFunction) → sizes.of_functions (body_of_path files n) fs ≡ of_functions (function_places files n fs) (map (with_body (bodies_within files n)) fs)
unfolding sizes.of_functions function_places
functions_sized files n [] = refl
functions_sized files n (f ∷ fs) =
    let params = sizes.of (params_nodes f.params_of) (params_height f.params_of) in
    let inner = of_body (one_each (places_within files n) (includes_in f.body_of)) (with_bodies (bodies_within files n) f.body_of) in
    let rest = of_functions (function_places files n fs) (map (with_body (bodies_within files n)) fs) in
    ap (λ (x : Size). sizes.beside (sizes.above (sizes.beside x (sizes.of_stmts (body_of_path files n) f.body_of))) (sizes.of_functions (body_of_path files n) fs)) (params_sized f.params_of)
    ∙ ap (λ (x : Size). sizes.beside (sizes.above (sizes.beside params x)) (sizes.of_functions (body_of_path files n) fs)) (stmts_sized (places_within files n) (bodies_within files n) f.body_of)
    ∙ ap (sizes.beside (sizes.above (sizes.beside params inner))) (functions_sized files n fs)
    ∙ same_size (sizes.beside (sizes.above (sizes.beside params inner)) rest) (of_functions (function_places files n (f ∷ fs)) (map (with_body (bodies_within files n)) (f ∷ fs))) (omega arith) (omega arith) refl

pub body_sized : (files : List ReadFile) (n : ℕ) (ss : PlainStmts) → sizes.of_stmts (body_of_path files n) ss ≡ of_body (one_each (places_within files n) (includes_in ss)) (with_bodies (bodies_within files n) ss)
body_sized files n ss = stmts_sized (places_within files n) (bodies_within files n) ss

-- of the program
pub program_sized : (files : List ReadFile) (n : ℕ) (ss : PlainStmts) (fs : List PlainFunction) → sizes.above (sizes.beside (sizes.of_stmts (body_of_path files n) ss) (sizes.of_functions (body_of_path files n) fs))
    ≡ record {
      places = one_each (places_within files n) (includes_in ss) + function_places files n fs;
      nodes = file_nodes (record { body_of = with_bodies (bodies_within files n) ss; functions_of = map (with_body (bodies_within files n)) fs });
      height = file_height (record { body_of = with_bodies (bodies_within files n) ss; functions_of = map (with_body (bodies_within files n)) fs });
    }
program_sized files n ss fs =
    let main = of_body (one_each (places_within files n) (includes_in ss)) (with_bodies (bodies_within files n) ss) in
    let rest = of_functions (function_places files n fs) (map (with_body (bodies_within files n)) fs) in
    ap (λ (x : Size). sizes.above (sizes.beside x (sizes.of_functions (body_of_path files n) fs))) (body_sized files n ss)
    ∙ ap (λ (x : Size). sizes.above (sizes.beside main x)) (functions_sized files n fs)
    ∙ same_size (sizes.above (sizes.beside main rest)) (record {
      places = one_each (places_within files n) (includes_in ss) + function_places files n fs;
      nodes = file_nodes (record { body_of = with_bodies (bodies_within files n) ss; functions_of = map (with_body (bodies_within files n)) fs });
      height = file_height (record { body_of = with_bodies (bodies_within files n) ss; functions_of = map (with_body (bodies_within files n)) fs });
    }) refl (omega arith) refl

pub functions_append : (table : List ℕ → Size) (fs gs : List PlainFunction) → sizes.of_functions table (fs ++ gs) ≡ sizes.beside (sizes.of_functions table fs) (sizes.of_functions table gs)
unfolding sizes.of_functions
functions_append table [] gs = sym (none_beside (sizes.of_functions table gs))
functions_append table (f ∷ fs) gs =
    let first = sizes.above (sizes.beside (sizes.of_params f.params_of) (sizes.of_stmts table f.body_of)) in
    ap (sizes.beside first) (functions_append table fs gs) ∙ sym (beside_assoc first (sizes.of_functions table fs) (sizes.of_functions table gs))
