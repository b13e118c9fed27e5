-- Calls where includes are replaced.
use Rattle.std.proofs.Common.{◌≡◌, ◌∙◌, ℕ, zero, suc, Bool, true, false, if◌then◌else◌, List, [], ◌∷◌, ◌++◌, map, inl, inr, refl, sym, ap, subst, arith, append_assoc}
use Rattle.std.specs.Prelude.{bytes_eq}
use Rattle.std.specs.List.{Contains}
use Rattle.std.proofs.lemmas.List.Elements.{Contains-append_cases, Contains-append_left, Contains-append_right}
use Rattle.php_syntax.specs.Trees.{PlainStmt, inline_stmt, echo_stmt, run_stmt, if_stmt, while_stmt, do_while_stmt, for_stmt, each_stmt, break_stmt, continue_stmt, return_stmt, include_stmt, quit_stmt, PlainStmts, no_stmts, more_stmts, PlainArms, no_arms, more_arms, PlainFunction}
use Rattle.program_expressions.specs.Collected.{key_collected, collected_of, bodies_collected}
use Rattle.program_rules.specs.Calls.{PlainCall, own_call, calls_in, maybe_calls, part_calls, calls_of, statement_calls, arm_calls, function_calls, calls_of_program}
use Rattle.program_rules.specs.Bodies.{followed_by, with_bodies, with_bodies_in, with_bodies_in_arms, with_body}
use Rattle.program_rules.specs.Programs.{ReadFile, functions_in}
use Rattle.include_expansion.specs.Within.{tree_named, bodies_within, program_within}
use Rattle.include_expansion.specs.FileCalls.{calls_of_file, calls_in_files}

-- each of the first is one of the others
abbrev Sub : List PlainCall → List PlainCall → Type 0
Sub xs ys = (call : PlainCall) → Contains xs call → Contains ys call

sub_both : (xs ys zs : List PlainCall) → Sub xs zs → Sub ys zs → Sub (xs ++ ys) zs
sub_both xs ys zs f g call c = elim (Contains-append_cases xs ys call c) [ inl a ↦ f call a | inr b ↦ g call b ]

sub_left : (xs ys zs : List PlainCall) → Sub (xs ++ ys) zs → Sub xs zs
sub_left xs ys zs f call c = f call (Contains-append_left xs ys call c)

sub_right : (xs ys zs : List PlainCall) → Sub (xs ++ ys) zs → Sub ys zs
sub_right xs ys zs f call c = f call (Contains-append_right xs ys call c)

sub_none : (zs : List PlainCall) → Sub [] zs
sub_none zs call c = absurd (let h = c.1 in omega arith)

sub_same : (xs ys zs : List PlainCall) → xs ≡ ys → Sub xs zs → Sub ys zs
sub_same xs ys zs e f = subst (λ (l : List PlainCall). Sub l zs) e f

followed : (a b : PlainStmts) → statement_calls (followed_by a b) ≡ statement_calls a ++ statement_calls b
unfolding collected_of followed_by
followed no_stmts b = refl
followed (more_stmts s ss) b = ap (λ (cs : List PlainCall). calls_of s ++ cs) (followed ss b) ∙ sym (append_assoc (calls_of s) (statement_calls ss) (statement_calls b))

alone : (s : PlainStmt) (L : List PlainCall) → Sub (calls_of s) L → Sub (statement_calls (more_stmts s no_stmts)) L
unfolding collected_of
alone s L f = sub_both (calls_of s) [] L f (sub_none L)

mutual
  unfolding collected_of own_call with_bodies

  in_stmts : (L : List PlainCall) (bodies : List ℕ → PlainStmts) → ((path : List ℕ) → Sub (statement_calls (bodies path)) L) → (ss : PlainStmts) → Sub (statement_calls ss) L → Sub (statement_calls (with_bodies bodies ss)) L
  in_stmts L bodies h no_stmts f = sub_none L
  in_stmts L bodies h (more_stmts s ss) f =
      sub_same (statement_calls (with_bodies_in bodies s) ++ statement_calls (with_bodies bodies ss)) (statement_calls (followed_by (with_bodies_in bodies s) (with_bodies bodies ss))) L (sym (followed (with_bodies_in bodies s) (with_bodies bodies ss)))
      (sub_both (statement_calls (with_bodies_in bodies s)) (statement_calls (with_bodies bodies ss)) L (in_stmt L bodies h s (sub_left (calls_of s) (statement_calls ss) L f)) (in_stmts L bodies h ss (sub_right (calls_of s) (statement_calls ss) L f)))

  in_stmt : (L : List PlainCall) (bodies : List ℕ → PlainStmts) → ((path : List ℕ) → Sub (statement_calls (bodies path)) L) → (s : PlainStmt) → Sub (calls_of s) L → Sub (statement_calls (with_bodies_in bodies s)) L
  in_stmt L bodies h (inline_stmt t) f = alone (inline_stmt t) L f
  in_stmt L bodies h (echo_stmt es) f = alone (echo_stmt es) L f
  in_stmt L bodies h (run_stmt e) f = alone (run_stmt e) L f
  in_stmt L bodies h (if_stmt a ss) f = alone (if_stmt (with_bodies_in_arms bodies a) (with_bodies bodies ss)) L
      (sub_both (arm_calls (with_bodies_in_arms bodies a)) (statement_calls (with_bodies bodies ss)) L (in_arms L bodies h a (sub_left (arm_calls a) (statement_calls ss) L f)) (in_stmts L bodies h ss (sub_right (arm_calls a) (statement_calls ss) L f)))
  in_stmt L bodies h (while_stmt e ss) f = alone (while_stmt e (with_bodies bodies ss)) L
      (sub_both (calls_in e) (statement_calls (with_bodies bodies ss)) L (sub_left (calls_in e) (statement_calls ss) L f) (in_stmts L bodies h ss (sub_right (calls_in e) (statement_calls ss) L f)))
  in_stmt L bodies h (do_while_stmt ss e) f = alone (do_while_stmt (with_bodies bodies ss) e) L
      (sub_both (statement_calls (with_bodies bodies ss)) (calls_in e) L (in_stmts L bodies h ss (sub_left (statement_calls ss) (calls_in e) L f)) (sub_right (statement_calls ss) (calls_in e) L f))
  in_stmt L bodies h (for_stmt begin e next ss) f =
      let rest = sub_right (part_calls begin) (maybe_calls e ++ (part_calls next ++ statement_calls ss)) L f in
      let last = sub_right (maybe_calls e) (part_calls next ++ statement_calls ss) L rest in
      alone (for_stmt begin e next (with_bodies bodies ss)) L
      (sub_both (part_calls begin) (maybe_calls e ++ (part_calls next ++ statement_calls (with_bodies bodies ss))) L (sub_left (part_calls begin) (maybe_calls e ++ (part_calls next ++ statement_calls ss)) L f)
      (sub_both (maybe_calls e) (part_calls next ++ statement_calls (with_bodies bodies ss)) L (sub_left (maybe_calls e) (part_calls next ++ statement_calls ss) L rest)
      (sub_both (part_calls next) (statement_calls (with_bodies bodies ss)) L (sub_left (part_calls next) (statement_calls ss) L last) (in_stmts L bodies h ss (sub_right (part_calls next) (statement_calls ss) L last)))))
  in_stmt L bodies h (each_stmt e k x ss) f =
      let key : List PlainCall = key_collected own_call k in
      let rest = sub_right (calls_in e) (key ++ statement_calls ss) L f in
      alone (each_stmt e k x (with_bodies bodies ss)) L
      (sub_both (calls_in e) (key ++ statement_calls (with_bodies bodies ss)) L (sub_left (calls_in e) (key ++ statement_calls ss) L f)
      (sub_both key (statement_calls (with_bodies bodies ss)) L (sub_left key (statement_calls ss) L rest) (in_stmts L bodies h ss (sub_right key (statement_calls ss) L rest))))
  in_stmt L bodies h break_stmt f = alone break_stmt L f
  in_stmt L bodies h continue_stmt f = alone continue_stmt L f
  in_stmt L bodies h (return_stmt e) f = alone (return_stmt e) L f
  in_stmt L bodies h (include_stmt path) f = h path
  in_stmt L bodies h (quit_stmt e) f = alone (quit_stmt e) L f

  in_arms : (L : List PlainCall) (bodies : List ℕ → PlainStmts) → ((path : List ℕ) → Sub (statement_calls (bodies path)) L) → (a : PlainArms) → Sub (arm_calls a) L → Sub (arm_calls (with_bodies_in_arms bodies a)) L
  in_arms L bodies h no_arms f = sub_none L
  in_arms L bodies h (more_arms e ss a) f =
      let rest = sub_right (calls_in e) (statement_calls ss ++ arm_calls a) L f in
      sub_both (calls_in e) (statement_calls (with_bodies bodies ss) ++ arm_calls (with_bodies_in_arms bodies a)) L (sub_left (calls_in e) (statement_calls ss ++ arm_calls a) L f)
      (sub_both (statement_calls (with_bodies bodies ss)) (arm_calls (with_bodies_in_arms bodies a)) L (in_stmts L bodies h ss (sub_left (statement_calls ss) (arm_calls a) L rest)) (in_arms L bodies h a (sub_right (statement_calls ss) (arm_calls a) L rest)))

in_functions : (L : List PlainCall) (bodies : List ℕ → PlainStmts) → ((path : List ℕ) → Sub (statement_calls (bodies path)) L) → (fs : List PlainFunction) → Sub (function_calls fs) L → Sub (function_calls (map (with_body bodies) fs)) L
unfolding bodies_collected
in_functions L bodies h [] f = sub_none L
in_functions L bodies h (g ∷ gs) f =
    sub_both (statement_calls (with_bodies bodies g.body_of)) (function_calls (map (with_body bodies) gs)) L (in_stmts L bodies h g.body_of (sub_left (statement_calls g.body_of) (function_calls gs) L f)) (in_functions L bodies h gs (sub_right (statement_calls g.body_of) (function_calls gs) L f))

functions_append : (a b : List PlainFunction) → function_calls (a ++ b) ≡ function_calls a ++ function_calls b
unfolding bodies_collected
functions_append [] b = refl
functions_append (f ∷ fs) b = ap (λ (cs : List PlainCall). statement_calls f.body_of ++ cs) (functions_append fs b) ∙ sym (append_assoc (statement_calls f.body_of) (function_calls fs) (function_calls b))

functions_sub : (files : List ReadFile) → Sub (function_calls (functions_in files)) (calls_in_files files)
unfolding functions_in calls_in_files bodies_collected
functions_sub [] = sub_none []
functions_sub (file ∷ files) =
    sub_same (function_calls file.tree.functions_of ++ function_calls (functions_in files)) (function_calls (file.tree.functions_of ++ functions_in files)) (calls_of_file file.tree ++ calls_in_files files) (sym (functions_append file.tree.functions_of (functions_in files)))
    (sub_both (function_calls file.tree.functions_of) (function_calls (functions_in files)) (calls_of_file file.tree ++ calls_in_files files)
    (λ call c. Contains-append_left (calls_of_file file.tree) (calls_in_files files) call (Contains-append_right (statement_calls file.tree.body_of) (function_calls file.tree.functions_of) call c))
    (λ call c. Contains-append_right (calls_of_file file.tree) (calls_in_files files) call (functions_sub files call c)))

named_sub : (files : List ReadFile) (path : List ℕ) → Sub (statement_calls (tree_named files path).body_of) (calls_in_files files)
unfolding tree_named calls_in_files collected_of
named_sub [] path = sub_none []
named_sub (file ∷ files) path = by (bytes_eq path file.name) (named_sub files path)
  where
    by : (b : Bool) → Sub (statement_calls (tree_named files path).body_of) (calls_in_files files) → Sub (statement_calls (if b then file.tree else tree_named files path).body_of) (calls_of_file file.tree ++ calls_in_files files)
    by true go call c = Contains-append_left (calls_of_file file.tree) (calls_in_files files) call (Contains-append_left (statement_calls file.tree.body_of) (function_calls file.tree.functions_of) call c)
    by false go call c = Contains-append_right (calls_of_file file.tree) (calls_in_files files) call (go call c)

bodies_sub : (files : List ReadFile) (n : ℕ) (path : List ℕ) → Sub (statement_calls (bodies_within files n path)) (calls_in_files files)
unfolding bodies_within collected_of
bodies_sub files zero path = sub_none (calls_in_files files)
bodies_sub files (suc n) path = in_stmts (calls_in_files files) (bodies_within files n) (bodies_sub files n) (tree_named files path).body_of (named_sub files path)

pub program_sub : (files : List ReadFile) (n : ℕ) (name : List ℕ) (call : PlainCall) → Contains (calls_of_program (program_within files n (tree_named files name))) call → Contains (calls_in_files files) call
unfolding calls_of_program
program_sub files n name =
    sub_both (statement_calls (with_bodies (bodies_within files n) (tree_named files name).body_of)) (function_calls (map (with_body (bodies_within files n)) (functions_in files))) (calls_in_files files)
    (in_stmts (calls_in_files files) (bodies_within files n) (bodies_sub files n) (tree_named files name).body_of (named_sub files name))
    (in_functions (calls_in_files files) (bodies_within files n) (bodies_sub files n) (functions_in files) (functions_sub files))
