-- Includes of other paths: which paths stand in statements then, and what stands for them.
use Rattle.std.proofs.Common.{◌≡◌, ◌∙◌, ℕ, List, [], ◌∷◌, ◌++◌, map, refl, ap, sym, append_assoc}
use Rattle.std.proofs.lemmas.List.Elements.{Contains-append_left, Contains-append_right}
use Rattle.std.proofs.lemmas.List.{map-append, append-nil}
use Rattle.php_syntax.specs.Trees.{PlainStmt, inline_stmt, echo_stmt, run_stmt, if_stmt, while_stmt, do_while_stmt, for_stmt, each_stmt, break_stmt, continue_stmt, return_stmt, include_stmt, quit_stmt, PlainStmts, no_stmts, more_stmts, PlainArms, no_arms, more_arms, PlainFunction, PlainFile}
use Rattle.program_rules.specs.Bodies.{followed_by, with_bodies, with_bodies_in, with_bodies_in_arms, with_body, file_with_bodies, include_of}
use Rattle.program_rules.specs.Includes.{includes_in, includes_of, includes_in_arms, includes_in_functions, includes_of_file}
use Rattle.program_rules.proofs.Agreement.{Agree, same_with}

followed_none : (a : PlainStmts) → followed_by a no_stmts ≡ a
unfolding followed_by
followed_none no_stmts = refl
followed_none (more_stmts s ss) = ap (more_stmts s) (followed_none ss)

followed_assoc : (a b c : PlainStmts) → followed_by (followed_by a b) c ≡ followed_by a (followed_by b c)
unfolding followed_by
followed_assoc no_stmts b c = refl
followed_assoc (more_stmts s ss) b c = ap (more_stmts s) (followed_assoc ss b c)

-- what stands for statements in a row stands in a row
in_a_row : (b : List ℕ → PlainStmts) (x y : PlainStmts) → with_bodies b (followed_by x y) ≡ followed_by (with_bodies b x) (with_bodies b y)
unfolding with_bodies followed_by
in_a_row b no_stmts y = refl
in_a_row b (more_stmts s ss) y =
    ap (followed_by (with_bodies_in b s)) (in_a_row b ss y) ∙ sym (followed_assoc (with_bodies_in b s) (with_bodies b ss) (with_bodies b y))

-- one statement, with nothing behind it
alone : (b : List ℕ → PlainStmts) (s : PlainStmt) → with_bodies b (more_stmts s no_stmts) ≡ with_bodies_in b s
unfolding with_bodies
alone b s = followed_none (with_bodies_in b s)

-- includes replaced twice are replaced at once
mutual
  unfolding with_bodies

  pub twice : (b c : List ℕ → PlainStmts) (ss : PlainStmts) → with_bodies b (with_bodies c ss) ≡ with_bodies (λ p. with_bodies b (c p)) ss
  twice b c no_stmts = refl
  twice b c (more_stmts s ss) =
      in_a_row b (with_bodies_in c s) (with_bodies c ss)
      ∙ ap (λ x. followed_by x (with_bodies b (with_bodies c ss))) (twice_in b c s)
      ∙ ap (followed_by (with_bodies_in (λ p. with_bodies b (c p)) s)) (twice b c ss)

  twice_in : (b c : List ℕ → PlainStmts) (s : PlainStmt) → with_bodies b (with_bodies_in c s) ≡ with_bodies_in (λ p. with_bodies b (c p)) s
  twice_in b c (inline_stmt bytes) = alone b (inline_stmt bytes)
  twice_in b c (echo_stmt es) = alone b (echo_stmt es)
  twice_in b c (run_stmt e) = alone b (run_stmt e)
  twice_in b c (if_stmt arms otherwise) =
      alone b (if_stmt (with_bodies_in_arms c arms) (with_bodies c otherwise))
      ∙ ap (λ x. more_stmts (if_stmt x (with_bodies b (with_bodies c otherwise))) no_stmts) (twice_arms b c arms)
      ∙ ap (λ x. more_stmts (if_stmt (with_bodies_in_arms (λ p. with_bodies b (c p)) arms) x) no_stmts) (twice b c otherwise)
  twice_in b c (while_stmt e body) = alone b (while_stmt e (with_bodies c body)) ∙ ap (λ x. more_stmts (while_stmt e x) no_stmts) (twice b c body)
  twice_in b c (do_while_stmt body e) = alone b (do_while_stmt (with_bodies c body) e) ∙ ap (λ x. more_stmts (do_while_stmt x e) no_stmts) (twice b c body)
  twice_in b c (for_stmt begin e next body) = alone b (for_stmt begin e next (with_bodies c body)) ∙ ap (λ x. more_stmts (for_stmt begin e next x) no_stmts) (twice b c body)
  twice_in b c (each_stmt e key x body) = alone b (each_stmt e key x (with_bodies c body)) ∙ ap (λ y. more_stmts (each_stmt e key x y) no_stmts) (twice b c body)
  twice_in b c break_stmt = alone b break_stmt
  twice_in b c continue_stmt = alone b continue_stmt
  twice_in b c (return_stmt e) = alone b (return_stmt e)
  twice_in b c (include_stmt path) = refl
  twice_in b c (quit_stmt e) = alone b (quit_stmt e)

  twice_arms : (b c : List ℕ → PlainStmts) (arms : PlainArms) → with_bodies_in_arms b (with_bodies_in_arms c arms) ≡ with_bodies_in_arms (λ p. with_bodies b (c p)) arms
  twice_arms b c no_arms = refl
  twice_arms b c (more_arms e body arms) =
      ap (λ x. more_arms e x (with_bodies_in_arms b (with_bodies_in_arms c arms))) (twice b c body) ∙ ap (more_arms e (with_bodies (λ p. with_bodies b (c p)) body)) (twice_arms b c arms)

-- statements of an include under another path
pub renamed : (b : List ℕ → PlainStmts) (path : List ℕ) → with_bodies b (include_of path) ≡ b path
unfolding with_bodies
renamed b path = followed_none (b path)

-- the includes of statements in a row
followed_includes : (a b : PlainStmts) → includes_in (followed_by a b) ≡ includes_in a ++ includes_in b
unfolding includes_in followed_by
followed_includes no_stmts b = refl
followed_includes (more_stmts s ss) b = ap (λ (xs : List (List ℕ)). includes_of s ++ xs) (followed_includes ss b) ∙ sym (append_assoc (includes_of s) (includes_in ss) (includes_in b))

only : (s : PlainStmt) (paths : List (List ℕ)) → includes_of s ≡ paths → includes_in (more_stmts s no_stmts) ≡ paths
unfolding includes_in
only s paths e = append-nil (includes_of s) ∙ e

-- with each include of another path, the paths are those
mutual
  unfolding with_bodies includes_in

  pub paths_in : (f : List ℕ → List ℕ) (ss : PlainStmts) → includes_in (with_bodies (λ p. include_of (f p)) ss) ≡ map f (includes_in ss)
  paths_in f no_stmts = refl
  paths_in f (more_stmts s ss) =
      let g : List ℕ → PlainStmts = λ p. include_of (f p) in
      followed_includes (with_bodies_in g s) (with_bodies g ss)
      ∙ ap (λ (xs : List (List ℕ)). xs ++ includes_in (with_bodies g ss)) (paths_of f s)
      ∙ ap (λ (xs : List (List ℕ)). map f (includes_of s) ++ xs) (paths_in f ss)
      ∙ sym (map-append f (includes_of s) (includes_in ss))

  paths_of : (f : List ℕ → List ℕ) (s : PlainStmt) → includes_in (with_bodies_in (λ p. include_of (f p)) s) ≡ map f (includes_of s)
  paths_of f (inline_stmt t) = refl
  paths_of f (echo_stmt es) = refl
  paths_of f (run_stmt e) = refl
  paths_of f (if_stmt arms otherwise) =
      let g : List ℕ → PlainStmts = λ p. include_of (f p) in
      only (if_stmt (with_bodies_in_arms g arms) (with_bodies g otherwise)) (map f (includes_of (if_stmt arms otherwise)))
      (ap (λ (xs : List (List ℕ)). xs ++ includes_in (with_bodies g otherwise)) (paths_in_arms f arms)
      ∙ ap (λ (xs : List (List ℕ)). map f (includes_in_arms arms) ++ xs) (paths_in f otherwise)
      ∙ sym (map-append f (includes_in_arms arms) (includes_in otherwise)))
  paths_of f (while_stmt e ss) = only (while_stmt e (with_bodies (λ p. include_of (f p)) ss)) (map f (includes_in ss)) (paths_in f ss)
  paths_of f (do_while_stmt ss e) = only (do_while_stmt (with_bodies (λ p. include_of (f p)) ss) e) (map f (includes_in ss)) (paths_in f ss)
  paths_of f (for_stmt begin e next ss) = only (for_stmt begin e next (with_bodies (λ p. include_of (f p)) ss)) (map f (includes_in ss)) (paths_in f ss)
  paths_of f (each_stmt e k x ss) = only (each_stmt e k x (with_bodies (λ p. include_of (f p)) ss)) (map f (includes_in ss)) (paths_in f ss)
  paths_of f break_stmt = refl
  paths_of f continue_stmt = refl
  paths_of f (return_stmt e) = refl
  paths_of f (include_stmt path) = refl
  paths_of f (quit_stmt e) = refl

  paths_in_arms : (f : List ℕ → List ℕ) (arms : PlainArms) → includes_in_arms (with_bodies_in_arms (λ p. include_of (f p)) arms) ≡ map f (includes_in_arms arms)
  paths_in_arms f no_arms = refl
  paths_in_arms f (more_arms e ss arms) =
      let g : List ℕ → PlainStmts = λ p. include_of (f p) in
      ap (λ (xs : List (List ℕ)). xs ++ includes_in_arms (with_bodies_in_arms g arms)) (paths_in f ss)
      ∙ ap (λ (xs : List (List ℕ)). map f (includes_in ss) ++ xs) (paths_in_arms f arms)
      ∙ sym (map-append f (includes_in ss) (includes_in_arms arms))

paths_in_functions : (f : List ℕ → List ℕ) (fs : List PlainFunction) → includes_in_functions (map (with_body (λ p. include_of (f p))) fs) ≡ map f (includes_in_functions fs)
unfolding includes_in_functions
paths_in_functions f [] = refl
paths_in_functions f (x ∷ fs) =
    let g : List ℕ → PlainStmts = λ p. include_of (f p) in
    ap (λ (xs : List (List ℕ)). xs ++ includes_in_functions (map (with_body g) fs)) (paths_in f x.body_of)
    ∙ ap (λ (xs : List (List ℕ)). map f (includes_in x.body_of) ++ xs) (paths_in_functions f fs)
    ∙ sym (map-append f (includes_in x.body_of) (includes_in_functions fs))

pub paths_of_file : (f : List ℕ → List ℕ) (tree : PlainFile) → includes_of_file (file_with_bodies (λ p. include_of (f p)) tree) ≡ map f (includes_of_file tree)
unfolding includes_of_file file_with_bodies
paths_of_file f tree =
    let g : List ℕ → PlainStmts = λ p. include_of (f p) in
    ap (λ (xs : List (List ℕ)). xs ++ includes_in_functions (map (with_body g) tree.functions_of)) (paths_in f tree.body_of)
    ∙ ap (λ (xs : List (List ℕ)). map f (includes_in tree.body_of) ++ xs) (paths_in_functions f tree.functions_of)
    ∙ sym (map-append f (includes_in tree.body_of) (includes_in_functions tree.functions_of))

-- files depend on what stands for the paths of their includes alone
same_functions : (p q : List ℕ → PlainStmts) (fs : List PlainFunction) → Agree p q (includes_in_functions fs) → map (with_body p) fs ≡ map (with_body q) fs
unfolding includes_in_functions
same_functions p q [] h = refl
same_functions p q (f ∷ fs) h =
    let a = same_with p q f.body_of (λ path c. h path (Contains-append_left (includes_in f.body_of) (includes_in_functions fs) path c)) in
    let b = same_functions p q fs (λ path c. h path (Contains-append_right (includes_in f.body_of) (includes_in_functions fs) path c)) in
    ap (λ (ss : PlainStmts). let x : PlainFunction = record { name_of = f.name_of; params_of = f.params_of; body_of = ss } in x ∷ map (with_body p) fs) a
    ∙ ap (λ (gs : List PlainFunction). with_body q f ∷ gs) b

pub same_file : (p q : List ℕ → PlainStmts) (tree : PlainFile) → Agree p q (includes_of_file tree) → file_with_bodies p tree ≡ file_with_bodies q tree
unfolding includes_of_file file_with_bodies
same_file p q tree h =
    let a = same_with p q tree.body_of (λ path c. h path (Contains-append_left (includes_in tree.body_of) (includes_in_functions tree.functions_of) path c)) in
    let b = same_functions p q tree.functions_of (λ path c. h path (Contains-append_right (includes_in tree.body_of) (includes_in_functions tree.functions_of) path c)) in
    ap (λ (ss : PlainStmts). let x : PlainFile = record { body_of = ss; functions_of = map (with_body p) tree.functions_of } in x) a
    ∙ ap (λ (gs : List PlainFunction). let x : PlainFile = record { body_of = with_bodies q tree.body_of; functions_of = gs } in x) b
