-- Where each include stands for statements without includes, none is left.
use Rattle.std.proofs.Common.{◌≡◌, ◌∙◌, ℕ, zero, suc, List, [], ◌++◌, refl, sym, ap, append_assoc}
use Rattle.php_syntax.specs.Trees.{PlainStmt, inline_stmt, echo_stmt, run_stmt, if_stmt, while_stmt, do_while_stmt, for_stmt, each_stmt, break_stmt, continue_stmt, return_stmt, include_stmt, quit_stmt, PlainStmts, no_stmts, more_stmts, PlainArms, no_arms, more_arms}
use Rattle.program_rules.specs.Includes.{includes_in, includes_of, includes_in_arms}
use Rattle.program_rules.specs.Bodies.{followed_by, with_bodies, with_bodies_in, with_bodies_in_arms}
use Rattle.program_rules.specs.Programs.{ReadFile}
use Rattle.include_expansion.specs.Within.{tree_named, bodies_within}

both_none : (a b : List (List ℕ)) → a ≡ [] → b ≡ [] → a ++ b ≡ []
both_none a b e f = ap (λ (xs : List (List ℕ)). xs ++ b) e ∙ f

followed : (a b : PlainStmts) → includes_in (followed_by a b) ≡ includes_in a ++ includes_in b
unfolding includes_in followed_by
followed no_stmts b = refl
followed (more_stmts s ss) b = ap (λ (xs : List (List ℕ)). includes_of s ++ xs) (followed ss b) ∙ sym (append_assoc (includes_of s) (includes_in ss) (includes_in b))

alone : (s : PlainStmt) → includes_of s ≡ [] → includes_in (more_stmts s no_stmts) ≡ []
unfolding includes_in
alone s e = both_none (includes_of s) [] e refl

mutual
  unfolding includes_in with_bodies

  none_in : (bodies : List ℕ → PlainStmts) → ((path : List ℕ) → includes_in (bodies path) ≡ []) → (ss : PlainStmts) → includes_in (with_bodies bodies ss) ≡ []
  none_in bodies h no_stmts = refl
  none_in bodies h (more_stmts s ss) = followed (with_bodies_in bodies s) (with_bodies bodies ss) ∙ both_none (includes_in (with_bodies_in bodies s)) (includes_in (with_bodies bodies ss)) (none_of bodies h s) (none_in bodies h ss)

  none_of : (bodies : List ℕ → PlainStmts) → ((path : List ℕ) → includes_in (bodies path) ≡ []) → (s : PlainStmt) → includes_in (with_bodies_in bodies s) ≡ []
  none_of bodies h (inline_stmt t) = refl
  none_of bodies h (echo_stmt es) = refl
  none_of bodies h (run_stmt e) = refl
  none_of bodies h (if_stmt a ss) = alone (if_stmt (with_bodies_in_arms bodies a) (with_bodies bodies ss)) (both_none (includes_in_arms (with_bodies_in_arms bodies a)) (includes_in (with_bodies bodies ss)) (none_in_arms bodies h a) (none_in bodies h ss))
  none_of bodies h (while_stmt e ss) = alone (while_stmt e (with_bodies bodies ss)) (none_in bodies h ss)
  none_of bodies h (do_while_stmt ss e) = alone (do_while_stmt (with_bodies bodies ss) e) (none_in bodies h ss)
  none_of bodies h (for_stmt begin e next ss) = alone (for_stmt begin e next (with_bodies bodies ss)) (none_in bodies h ss)
  none_of bodies h (each_stmt e k x ss) = alone (each_stmt e k x (with_bodies bodies ss)) (none_in bodies h ss)
  none_of bodies h break_stmt = refl
  none_of bodies h continue_stmt = refl
  none_of bodies h (return_stmt e) = refl
  none_of bodies h (include_stmt path) = h path
  none_of bodies h (quit_stmt e) = refl

  none_in_arms : (bodies : List ℕ → PlainStmts) → ((path : List ℕ) → includes_in (bodies path) ≡ []) → (a : PlainArms) → includes_in_arms (with_bodies_in_arms bodies a) ≡ []
  none_in_arms bodies h no_arms = refl
  none_in_arms bodies h (more_arms e ss a) = both_none (includes_in (with_bodies bodies ss)) (includes_in_arms (with_bodies_in_arms bodies a)) (none_in bodies h ss) (none_in_arms bodies h a)

none_within : (files : List ReadFile) (n : ℕ) (path : List ℕ) → includes_in (bodies_within files n path) ≡ []
unfolding bodies_within includes_in
none_within files zero path = refl
none_within files (suc n) path = none_in (bodies_within files n) (none_within files n) (tree_named files path).body_of

pub none_left : (files : List ReadFile) (n : ℕ) (ss : PlainStmts) → includes_in (with_bodies (bodies_within files n) ss) ≡ []
none_left files n ss = none_in (bodies_within files n) (none_within files n) ss
