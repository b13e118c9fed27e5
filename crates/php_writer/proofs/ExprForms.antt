-- Each expression that is spellable has a form at its own place, spelled by its marks.
use Rattle.std.proofs.Common.{◌≡◌, ℕ, Bool, true, false, ◌&&◌, List}
use Rattle.php_syntax.specs.Trees.{PlainExpr, null_expr, flag_expr, int_expr, text_expr, var_expr, super_expr, member_expr, array_expr, join_expr, neg_expr, not_expr, arith_expr, compare_expr, and_expr, or_expr, coalesce_expr, choice_expr, isset_expr, empty_expr, assign_expr, update_expr, step_expr, call_expr, MaybeExpr, no_expr, some_expr, PlainExprs, no_exprs, more_exprs, PlainItems, no_items, more_items, PlainPath, no_keys, more_keys}
use Rattle.spellable.specs.Marks.{Mark}
use Rattle.spellable.specs.Spellable.{is_name, is_call_name, are_parts, is_some_exprs, expr_spellable, maybe_spellable, exprs_spellable, items_spellable, path_spellable}
use Rattle.php_writer.specs.Written.{looseness, within, arith_looseness, arith_side, compare_side, expr_marks}
use Rattle.spellable.proofs.Halves.{halves, call_name_is}
use Rattle.php_writer.proofs.Looseness.{IsOwn, at, whole}
use Rattle.php_writer.proofs.ListForms.{IsMaybe, AllOwn, AllItems, AllKeys, more_formed, list_formed, dots_formed, keys_formed}
use Rattle.php_writer.proofs.ItemForms.{items_formed}
use Rattle.php_writer.proofs.OperationForms.{arith_formed, compare_formed, and_formed, or_formed, coalesce_formed, short_formed, full_formed, neg_formed, not_formed}
use Rattle.php_writer.proofs.OperandForms.{null_formed, flag_formed, int_formed, text_formed, var_formed, super_formed, member_formed, call_formed, array_formed, isset_formed, empty_formed, before_formed, after_formed, assign_formed, update_formed, template_formed}

-- an operand at its place, by its marks there
abbrev placed_marks : ℕ → PlainExpr → List Mark → List Mark
placed_marks place e r = within place (looseness e) (expr_marks e) r

choice_own : (a : PlainExpr) (m : MaybeExpr) (b : PlainExpr) → IsOwn a → IsMaybe m → IsOwn b → IsOwn (choice_expr a m b)
unfolding expr_marks
choice_own a no_expr b f h g = short_formed a b (placed_marks 10 a) (placed_marks 10 b) (at 10 a f) (at 10 b g)
choice_own a (some_expr e) b f h g = full_formed a e b (placed_marks 10 a) (expr_marks e) (placed_marks 10 b) (at 10 a f) (whole e h) (at 10 b g)

join_own : (es : PlainExprs) → are_parts es ≡ true → AllOwn es → IsOwn (join_expr es)
unfolding expr_marks
join_own no_exprs h own = absurd (cc)
join_own (more_exprs e no_exprs) h own = template_formed e h
join_own (more_exprs e (more_exprs f es)) h own = dots_formed e f es own

isset_own : (es : PlainExprs) → is_some_exprs es ≡ true → AllOwn es → IsOwn (isset_expr es)
unfolding expr_marks
isset_own no_exprs h own = absurd (cc)
isset_own (more_exprs e es) h own = isset_formed e es (whole e own.0) (more_formed es own.1)

step_own : (x : List ℕ) (up before : Bool) → IsOwn (step_expr x up before)
unfolding expr_marks
step_own x up true = before_formed x up
step_own x up false = after_formed x up

call_own : (f : List ℕ) (es : PlainExprs) → is_call_name f ≡ true → AllOwn es → IsOwn (call_expr f es)
unfolding expr_marks
call_own f es h own = call_formed f es (call_name_is f h) (list_formed es own)

mutual
  unfolding expr_marks expr_spellable

  pub expr_own : (e : PlainExpr) → expr_spellable e ≡ true → IsOwn e
  expr_own null_expr h = null_formed
  expr_own (flag_expr b) h = flag_formed b
  expr_own (int_expr z) h = int_formed z h
  expr_own (text_expr t) h = text_formed t
  expr_own (var_expr x) h = var_formed x h
  expr_own (super_expr s) h = super_formed s
  expr_own (member_expr a k) h = let both = halves (expr_spellable a) (expr_spellable k) h in member_formed a k (placed_marks 0 a) (expr_marks k) (at 0 a (expr_own a both.0)) (whole k (expr_own k both.1))
  expr_own (array_expr is) h = array_formed is (items_formed is (items_own is h))
  expr_own (join_expr es) h = let both = halves (are_parts es) (exprs_spellable es) h in join_own es both.0 (exprs_own es both.1)
  expr_own (neg_expr a) h = neg_formed a (placed_marks 2 a) (at 2 a (expr_own a h))
  expr_own (not_expr a) h = not_formed a (placed_marks 2 a) (at 2 a (expr_own a h))
  expr_own (arith_expr s a b) h =
      let both = halves (expr_spellable a) (expr_spellable b) h
      in arith_formed s a b (placed_marks (arith_looseness s) a) (placed_marks (arith_side s) b) (at (arith_looseness s) a (expr_own a both.0)) (at (arith_side s) b (expr_own b both.1))
  expr_own (compare_expr s a b) h =
      let both = halves (expr_spellable a) (expr_spellable b) h
      in compare_formed s a b (placed_marks (compare_side s) a) (placed_marks (compare_side s) b) (at (compare_side s) a (expr_own a both.0)) (at (compare_side s) b (expr_own b both.1))
  expr_own (and_expr a b) h = let both = halves (expr_spellable a) (expr_spellable b) h in and_formed a b (placed_marks 8 a) (placed_marks 7 b) (at 8 a (expr_own a both.0)) (at 7 b (expr_own b both.1))
  expr_own (or_expr a b) h = let both = halves (expr_spellable a) (expr_spellable b) h in or_formed a b (placed_marks 9 a) (placed_marks 8 b) (at 9 a (expr_own a both.0)) (at 8 b (expr_own b both.1))
  expr_own (coalesce_expr a b) h = let both = halves (expr_spellable a) (expr_spellable b) h in coalesce_formed a b (placed_marks 9 a) (placed_marks 10 b) (at 9 a (expr_own a both.0)) (at 10 b (expr_own b both.1))
  expr_own (choice_expr a m b) h =
      let one = halves (expr_spellable a) (maybe_spellable m && expr_spellable b) h
      in let two = halves (maybe_spellable m) (expr_spellable b) one.1
      in choice_own a m b (expr_own a one.0) (maybe_own m two.0) (expr_own b two.1)
  expr_own (isset_expr es) h = let both = halves (is_some_exprs es) (exprs_spellable es) h in isset_own es both.0 (exprs_own es both.1)
  expr_own (empty_expr a) h = empty_formed a (expr_marks a) (whole a (expr_own a h))
  expr_own (assign_expr x ks e) h =
      let both = halves (path_spellable ks) (expr_spellable e) (halves (is_name x) (path_spellable ks && expr_spellable e) h).1
      in assign_formed x ks e (expr_marks e) (keys_formed ks (path_own ks both.0)) (whole e (expr_own e both.1))
  expr_own (update_expr s x ks e) h =
      let both = halves (path_spellable ks) (expr_spellable e) (halves (is_name x) (path_spellable ks && expr_spellable e) h).1
      in update_formed s x ks e (expr_marks e) (keys_formed ks (path_own ks both.0)) (whole e (expr_own e both.1))
  expr_own (step_expr x up before) h = step_own x up before
  expr_own (call_expr f es) h = let both = halves (is_call_name f) (exprs_spellable es) h in call_own f es both.0 (exprs_own es both.1)

  pub maybe_own : (m : MaybeExpr) → maybe_spellable m ≡ true → IsMaybe m
  maybe_own no_expr h = tt
  maybe_own (some_expr e) h = expr_own e h

  pub exprs_own : (es : PlainExprs) → exprs_spellable es ≡ true → AllOwn es
  exprs_own no_exprs h = tt
  exprs_own (more_exprs e es) h = let both = halves (expr_spellable e) (exprs_spellable es) h in (expr_own e both.0, exprs_own es both.1)

  items_own : (is : PlainItems) → items_spellable is ≡ true → AllItems is
  items_own no_items h = tt
  items_own (more_items k e is) h =
      let one = halves (maybe_spellable k) (expr_spellable e && items_spellable is) h
      in let two = halves (expr_spellable e) (items_spellable is) one.1
      in (maybe_own k one.0, expr_own e two.0, items_own is two.1)

  path_own : (ks : PlainPath) → path_spellable ks ≡ true → AllKeys ks
  path_own no_keys h = tt
  path_own (more_keys k ks) h = let both = halves (maybe_spellable k) (path_spellable ks) h in (maybe_own k both.0, path_own ks both.1)
