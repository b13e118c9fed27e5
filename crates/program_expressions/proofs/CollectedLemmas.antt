-- What is collected is what the expressions of the tree have of their own, one after the other.
use Rattle.std.proofs.Common.{◌≡◌, ◌∙◌, ℕ, List, [], ◌∷◌, ◌++◌, Option, Some, None, sym, refl, ap}
use Rattle.std.specs.List.{flat_map, fold}
use Rattle.std.proofs.lemmas.List.{append-nil}
use Rattle.std.proofs.lemmas.Grind.{flat_map-append}
use Rattle.php_syntax.specs.Trees.{PlainExpr, null_expr, flag_expr, int_expr, text_expr, var_expr, super_expr, member_expr, array_expr, join_expr, neg_expr, not_expr, arith_expr, compare_expr, and_expr, or_expr, coalesce_expr, choice_expr, isset_expr, empty_expr, assign_expr, update_expr, step_expr, call_expr, MaybeExpr, no_expr, some_expr, PlainExprs, no_exprs, more_exprs, PlainItems, no_items, more_items, PlainPath, no_keys, more_keys, PlainStmt, inline_stmt, echo_stmt, run_stmt, if_stmt, while_stmt, do_while_stmt, for_stmt, each_stmt, break_stmt, continue_stmt, return_stmt, include_stmt, quit_stmt, PlainStmts, no_stmts, more_stmts, PlainArms, no_arms, more_arms, PlainParam, PlainFunction}
use Rattle.program_expressions.specs.Collected.{collected, maybe_collected, part_collected, item_collected, path_collected, key_collected, collected_of, stmts_collected, arms_collected, bodies_collected, defaults_collected, functions_collected, itself}

-- of lists side by side

both : {A : Type 0} (own : PlainExpr → List A) (xs ys : List PlainExpr) (ls ms : List A) → flat_map own xs ≡ ls → flat_map own ys ≡ ms
    → flat_map own (xs ++ ys) ≡ ls ++ ms
both own xs ys ls ms p q = let e = flat_map-append own xs ys in cc

three : {A : Type 0} (own : PlainExpr → List A) (xs ys zs : List PlainExpr) (ls ms ns : List A) → flat_map own xs ≡ ls → flat_map own ys ≡ ms → flat_map own zs ≡ ns
    → flat_map own (xs ++ (ys ++ zs)) ≡ ls ++ (ms ++ ns)
three own xs ys zs ls ms ns p q r = both own xs (ys ++ zs) ls (ms ++ ns) p (both own ys zs ms ns q r)

-- an expression itself, with what stands in its parts
with_parts : {A : Type 0} (own : PlainExpr → List A) (e : PlainExpr) (xs : List PlainExpr) (ls : List A) → flat_map own xs ≡ ls → flat_map own ((e ∷ []) ++ xs) ≡ own e ++ ls
with_parts own e xs ls p = ap (λ (l : List _). own e ++ l) p

mutual
  unfolding collected

  pub flat_expr : {A : Type 0} (own : PlainExpr → List A) (e : PlainExpr) → flat_map own (collected itself e) ≡ collected own e
  flat_expr own null_expr = append-nil (own null_expr)
  flat_expr own (flag_expr b) = append-nil (own (flag_expr b))
  flat_expr own (int_expr z) = append-nil (own (int_expr z))
  flat_expr own (text_expr t) = append-nil (own (text_expr t))
  flat_expr own (var_expr x) = append-nil (own (var_expr x))
  flat_expr own (super_expr name) = append-nil (own (super_expr name))
  flat_expr own (member_expr a k) = with_parts own (member_expr a k) _ _ (both own _ _ _ _ (flat_expr own a) (flat_expr own k))
  flat_expr own (array_expr items) = with_parts own (array_expr items) _ _ (flat_items own items)
  flat_expr own (join_expr parts) = with_parts own (join_expr parts) _ _ (flat_exprs own parts)
  flat_expr own (neg_expr a) = with_parts own (neg_expr a) _ _ (flat_expr own a)
  flat_expr own (not_expr a) = with_parts own (not_expr a) _ _ (flat_expr own a)
  flat_expr own (arith_expr sign a b) = with_parts own (arith_expr sign a b) _ _ (both own _ _ _ _ (flat_expr own a) (flat_expr own b))
  flat_expr own (compare_expr sign a b) = with_parts own (compare_expr sign a b) _ _ (both own _ _ _ _ (flat_expr own a) (flat_expr own b))
  flat_expr own (and_expr a b) = with_parts own (and_expr a b) _ _ (both own _ _ _ _ (flat_expr own a) (flat_expr own b))
  flat_expr own (or_expr a b) = with_parts own (or_expr a b) _ _ (both own _ _ _ _ (flat_expr own a) (flat_expr own b))
  flat_expr own (coalesce_expr a b) = with_parts own (coalesce_expr a b) _ _ (both own _ _ _ _ (flat_expr own a) (flat_expr own b))
  flat_expr own (choice_expr c m b) = with_parts own (choice_expr c m b) _ _ (three own _ _ _ _ _ _ (flat_expr own c) (flat_maybe own m) (flat_expr own b))
  flat_expr own (isset_expr parts) = with_parts own (isset_expr parts) _ _ (flat_exprs own parts)
  flat_expr own (empty_expr a) = with_parts own (empty_expr a) _ _ (flat_expr own a)
  flat_expr own (assign_expr x path e) = with_parts own (assign_expr x path e) _ _ (both own _ _ _ _ (flat_path own path) (flat_expr own e))
  flat_expr own (update_expr sign x path e) = with_parts own (update_expr sign x path e) _ _ (both own _ _ _ _ (flat_path own path) (flat_expr own e))
  flat_expr own (step_expr x up before) = append-nil (own (step_expr x up before))
  flat_expr own (call_expr name args) = with_parts own (call_expr name args) _ _ (flat_exprs own args)

  pub flat_maybe : {A : Type 0} (own : PlainExpr → List A) (m : MaybeExpr) → flat_map own (maybe_collected itself m) ≡ maybe_collected own m
  flat_maybe own no_expr = refl
  flat_maybe own (some_expr e) = flat_expr own e

  pub flat_exprs : {A : Type 0} (own : PlainExpr → List A) (es : PlainExprs) → flat_map own (part_collected itself es) ≡ part_collected own es
  flat_exprs own no_exprs = refl
  flat_exprs own (more_exprs e es) = both own _ _ _ _ (flat_expr own e) (flat_exprs own es)

  flat_items : {A : Type 0} (own : PlainExpr → List A) (is : PlainItems) → flat_map own (item_collected itself is) ≡ item_collected own is
  flat_items own no_items = refl
  flat_items own (more_items k e is) = three own _ _ _ _ _ _ (flat_maybe own k) (flat_expr own e) (flat_items own is)

  flat_path : {A : Type 0} (own : PlainExpr → List A) (ks : PlainPath) → flat_map own (path_collected itself ks) ≡ path_collected own ks
  flat_path own no_keys = refl
  flat_path own (more_keys k ks) = both own _ _ _ _ (flat_maybe own k) (flat_path own ks)

flat_key : {A : Type 0} (own : PlainExpr → List A) (key : Option (List ℕ)) → flat_map own (key_collected itself key) ≡ key_collected own key
flat_key own None = refl
flat_key own (Some x) = append-nil (own (var_expr x))

mutual
  unfolding collected_of

  flat_stmt : {A : Type 0} (own : PlainExpr → List A) (s : PlainStmt) → flat_map own (collected_of itself s) ≡ collected_of own s
  flat_stmt own (inline_stmt bytes) = refl
  flat_stmt own (echo_stmt es) = flat_exprs own es
  flat_stmt own (run_stmt e) = flat_expr own e
  flat_stmt own (if_stmt arms otherwise) = both own _ _ _ _ (flat_arms own arms) (flat_stmts own otherwise)
  flat_stmt own (while_stmt e body) = both own _ _ _ _ (flat_expr own e) (flat_stmts own body)
  flat_stmt own (do_while_stmt body e) = both own _ _ _ _ (flat_stmts own body) (flat_expr own e)
  flat_stmt own (for_stmt begin e next body) = both own _ _ _ _ (flat_exprs own begin) (three own _ _ _ _ _ _ (flat_maybe own e) (flat_exprs own next) (flat_stmts own body))
  flat_stmt own (each_stmt e key x body) =
      both own _ _ _ _ (flat_expr own e) (both own _ _ _ _ (flat_key own key) (with_parts own (var_expr x) _ _ (flat_stmts own body)))
  flat_stmt own break_stmt = refl
  flat_stmt own continue_stmt = refl
  flat_stmt own (return_stmt e) = flat_maybe own e
  flat_stmt own (include_stmt path) = refl
  flat_stmt own (quit_stmt e) = flat_maybe own e

  pub flat_stmts : {A : Type 0} (own : PlainExpr → List A) (ss : PlainStmts) → flat_map own (stmts_collected itself ss) ≡ stmts_collected own ss
  flat_stmts own no_stmts = refl
  flat_stmts own (more_stmts s ss) = both own _ _ _ _ (flat_stmt own s) (flat_stmts own ss)

  flat_arms : {A : Type 0} (own : PlainExpr → List A) (arms : PlainArms) → flat_map own (arms_collected itself arms) ≡ arms_collected own arms
  flat_arms own no_arms = refl
  flat_arms own (more_arms e body arms) = three own _ _ _ _ _ _ (flat_expr own e) (flat_stmts own body) (flat_arms own arms)

pub flat_bodies : {A : Type 0} (own : PlainExpr → List A) (fs : List PlainFunction) → flat_map own (bodies_collected itself fs) ≡ bodies_collected own fs
unfolding bodies_collected
flat_bodies own [] = refl
flat_bodies own (f ∷ fs) = both own _ _ _ _ (flat_stmts own f.body_of) (flat_bodies own fs)

flat_defaults : {A : Type 0} (own : PlainExpr → List A) (ps : List PlainParam) → flat_map own (defaults_collected itself ps) ≡ defaults_collected own ps
unfolding defaults_collected
flat_defaults own [] = refl
flat_defaults own (p ∷ ps) = both own _ _ _ _ (flat_maybe own p.default_of) (flat_defaults own ps)

pub flat_functions : {A : Type 0} (own : PlainExpr → List A) (fs : List PlainFunction) → flat_map own (functions_collected itself fs) ≡ functions_collected own fs
unfolding functions_collected
flat_functions own [] = refl
flat_functions own (f ∷ fs) = three own _ _ _ _ _ _ (flat_defaults own f.params_of) (flat_stmts own f.body_of) (flat_functions own fs)

-- a state that takes up what each of the expressions has of its own, one after the other, takes up all that is collected

-- to take up two lists is to take up the one and then the other
pub record TakesUp {S A : Type 0} (act : S → List A → S) : Type 0 where
  pub nothing : (s : S) → act s [] ≡ s
  pub one_by_one : (s : S) (ls ms : List A) → act s (ls ++ ms) ≡ act (act s ls) ms

taken_up : {S A : Type 0} (act : S → List A → S) (own : PlainExpr → List A) → TakesUp act → (s : S) (es : List PlainExpr)
    → fold (λ s e. act s (own e)) s es ≡ act s (flat_map own es)
taken_up act own law s [] = sym (law.nothing s)
taken_up act own law s (e ∷ es) = taken_up act own law (act s (own e)) es ∙ sym (law.one_by_one s (own e) (flat_map own es))

pub takes_expr : {S A : Type 0} (act : S → List A → S) (own : PlainExpr → List A) → TakesUp act → (s : S) (e : PlainExpr)
    → fold (λ s e. act s (own e)) s (collected itself e) ≡ act s (collected own e)
takes_expr act own law s e = taken_up act own law s (collected itself e) ∙ ap (λ (l : List _). act s l) (flat_expr own e)

pub takes_maybe : {S A : Type 0} (act : S → List A → S) (own : PlainExpr → List A) → TakesUp act → (s : S) (m : MaybeExpr)
    → fold (λ s e. act s (own e)) s (maybe_collected itself m) ≡ act s (maybe_collected own m)
takes_maybe act own law s m = taken_up act own law s (maybe_collected itself m) ∙ ap (λ (l : List _). act s l) (flat_maybe own m)

pub takes_exprs : {S A : Type 0} (act : S → List A → S) (own : PlainExpr → List A) → TakesUp act → (s : S) (es : PlainExprs)
    → fold (λ s e. act s (own e)) s (part_collected itself es) ≡ act s (part_collected own es)
takes_exprs act own law s es = taken_up act own law s (part_collected itself es) ∙ ap (λ (l : List _). act s l) (flat_exprs own es)

pub takes_stmts : {S A : Type 0} (act : S → List A → S) (own : PlainExpr → List A) → TakesUp act → (s : S) (ss : PlainStmts)
    → fold (λ s e. act s (own e)) s (stmts_collected itself ss) ≡ act s (stmts_collected own ss)
takes_stmts act own law s ss = taken_up act own law s (stmts_collected itself ss) ∙ ap (λ (l : List _). act s l) (flat_stmts own ss)

pub takes_bodies : {S A : Type 0} (act : S → List A → S) (own : PlainExpr → List A) → TakesUp act → (s : S) (fs : List PlainFunction)
    → fold (λ s e. act s (own e)) s (bodies_collected itself fs) ≡ act s (bodies_collected own fs)
takes_bodies act own law s fs = taken_up act own law s (bodies_collected itself fs) ∙ ap (λ (l : List _). act s l) (flat_bodies own fs)

pub takes_functions : {S A : Type 0} (act : S → List A → S) (own : PlainExpr → List A) → TakesUp act → (s : S) (fs : List PlainFunction)
    → fold (λ s e. act s (own e)) s (functions_collected itself fs) ≡ act s (functions_collected own fs)
takes_functions act own law s fs = taken_up act own law s (functions_collected itself fs) ∙ ap (λ (l : List _). act s l) (flat_functions own fs)
