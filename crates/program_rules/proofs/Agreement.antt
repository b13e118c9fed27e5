-- Statements with includes replaced depend on what stands under the paths of their includes alone.
use Rattle.std.proofs.Common.{◌≡◌, ℕ, suc, ◌+◌, List, [], ◌∷◌, ◌++◌, refl, ap, ◌∙◌, sym, subst, arith}
use Rattle.std.specs.List.{Contains}
use Rattle.std.proofs.lemmas.List.Elements.{Contains-append_left, Contains-append_right}
use Rattle.php_syntax.specs.Trees.{PlainStmt, inline_stmt, echo_stmt, run_stmt, if_stmt, while_stmt, do_while_stmt, for_stmt, each_stmt, break_stmt, continue_stmt, return_stmt, include_stmt, quit_stmt, PlainStmts, no_stmts, more_stmts, PlainArms, no_arms, more_arms, PlainFile}
use Rattle.program_rules.specs.Files.{Held, HasOneTree}
use Rattle.program_rules.specs.Includes.{includes_in, includes_of, includes_in_arms}
use Rattle.program_rules.specs.Limits.{one_each, HasPlaces, counted}
use Rattle.program_rules.specs.Bodies.{followed_by, with_bodies, with_bodies_in, with_bodies_in_arms}
use Rattle.program_rules.specs.Expansion.{StandsFor, stands}

-- two ways to replace paths agree on some of them
abbrev pub Agree : (List ℕ → PlainStmts) → (List ℕ → PlainStmts) → List (List ℕ) → Type 0
Agree p q paths = (path : List ℕ) → Contains paths path → p path ≡ q path

agree_left : (p q : List ℕ → PlainStmts) (xs ys : List (List ℕ)) → Agree p q (xs ++ ys) → Agree p q xs
agree_left p q xs ys h path c = h path (Contains-append_left xs ys path c)

agree_right : (p q : List ℕ → PlainStmts) (xs ys : List (List ℕ)) → Agree p q (xs ++ ys) → Agree p q ys
agree_right p q xs ys h path c = h path (Contains-append_right xs ys path c)

contains_first : (path : List ℕ) (paths : List (List ℕ)) → Contains (path ∷ paths) path
contains_first path paths = (0, omega arith, refl)

mutual
  unfolding includes_in with_bodies

  pub same_with : (p q : List ℕ → PlainStmts) (ss : PlainStmts) → Agree p q (includes_in ss) → with_bodies p ss ≡ with_bodies q ss
  same_with p q no_stmts h = refl
  same_with p q (more_stmts s ss) h =
      let a = same_in p q s (agree_left p q (includes_of s) (includes_in ss) h) in
      let b = same_with p q ss (agree_right p q (includes_of s) (includes_in ss) h) in
      ap (λ x. followed_by x (with_bodies p ss)) a ∙ ap (followed_by (with_bodies_in q s)) b

  same_in : (p q : List ℕ → PlainStmts) (s : PlainStmt) → Agree p q (includes_of s) → with_bodies_in p s ≡ with_bodies_in q s
  same_in p q (inline_stmt bytes) h = refl
  same_in p q (echo_stmt es) h = refl
  same_in p q (run_stmt e) h = refl
  same_in p q (if_stmt arms otherwise) h =
      let a = same_arms p q arms (agree_left p q (includes_in_arms arms) (includes_in otherwise) h) in
      let b = same_with p q otherwise (agree_right p q (includes_in_arms arms) (includes_in otherwise) h) in
      ap (λ x. more_stmts (if_stmt x (with_bodies p otherwise)) no_stmts) a ∙ ap (λ x. more_stmts (if_stmt (with_bodies_in_arms q arms) x) no_stmts) b
  same_in p q (while_stmt e body) h = ap (λ x. more_stmts (while_stmt e x) no_stmts) (same_with p q body h)
  same_in p q (do_while_stmt body e) h = ap (λ x. more_stmts (do_while_stmt x e) no_stmts) (same_with p q body h)
  same_in p q (for_stmt begin e next body) h = ap (λ x. more_stmts (for_stmt begin e next x) no_stmts) (same_with p q body h)
  same_in p q (each_stmt e key x body) h = ap (λ y. more_stmts (each_stmt e key x y) no_stmts) (same_with p q body h)
  same_in p q break_stmt h = refl
  same_in p q continue_stmt h = refl
  same_in p q (return_stmt e) h = refl
  same_in p q (include_stmt path) h = h path (contains_first path [])
  same_in p q (quit_stmt e) h = refl

  same_arms : (p q : List ℕ → PlainStmts) (arms : PlainArms) → Agree p q (includes_in_arms arms) → with_bodies_in_arms p arms ≡ with_bodies_in_arms q arms
  same_arms p q no_arms h = refl
  same_arms p q (more_arms e body arms) h =
      let a = same_with p q body (agree_left p q (includes_in body) (includes_in_arms arms) h) in
      let b = same_arms p q arms (agree_right p q (includes_in body) (includes_in_arms arms) h) in
      ap (λ x. more_arms e x (with_bodies_in_arms p arms)) a ∙ ap (more_arms e (with_bodies q body)) b

pub one_body : (held : Held) → HasOneTree held → (ss a b : PlainStmts) → StandsFor held ss a → StandsFor held ss b → a ≡ b
one_body held one ss a b (stands _ trees bodies has inner) (stands _ others bodies' has' inner') =
    same_with bodies bodies' ss λ path c.
    let e = one path (trees path) (others path) (has path c) (has' path c) in
    one_body held one (trees path).body_of (bodies path) (bodies' path) (inner path c) (subst (λ (t : PlainFile). StandsFor held t.body_of (bodies' path)) (sym e) (inner' path c))

agreed_sum : (p q : List ℕ → ℕ) (paths : List (List ℕ)) → ((path : List ℕ) → Contains paths path → p path ≡ q path) → one_each p paths ≡ one_each q paths
unfolding one_each
agreed_sum p q [] h = refl
agreed_sum p q (path ∷ paths) h =
    let a = h path (contains_first path paths) in
    let b = agreed_sum p q paths (λ x c. h x (Contains-append_right (path ∷ []) paths x c)) in
    ap (λ n. suc n + one_each p paths) a ∙ ap (λ n. suc (q path) + n) b

pub one_count : (held : Held) → HasOneTree held → (ss : PlainStmts) (m n : ℕ) → HasPlaces held ss m → HasPlaces held ss n → m ≡ n
one_count held one ss m n (counted _ trees counts has inner) (counted _ others counts' has' inner') =
    agreed_sum counts counts' (includes_in ss) λ path c.
    let e = one path (trees path) (others path) (has path c) (has' path c) in
    one_count held one (trees path).body_of (counts path) (counts' path) (inner path c) (subst (λ (t : PlainFile). HasPlaces held t.body_of (counts' path)) (sym e) (inner' path c))
