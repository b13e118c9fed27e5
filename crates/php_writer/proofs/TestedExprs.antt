-- An expression that is so high at most, spellable and by the rules passes the one test.
use Rattle.std.proofs.Common.{◌≡◌, ℕ, ◌+◌, ◌-◌, ◌<◌, ◌≤◌, max, Bool, true, ◌&&◌, List, refl, arith}
use Rattle.php_syntax.specs.Trees.{PlainExpr, null_expr, flag_expr, int_expr, text_expr, var_expr, super_expr, member_expr, array_expr, join_expr, neg_expr, not_expr, arith_expr, compare_expr, and_expr, or_expr, coalesce_expr, choice_expr, isset_expr, empty_expr, assign_expr, update_expr, step_expr, call_expr, MaybeExpr, no_expr, some_expr, PlainExprs, no_exprs, more_exprs, PlainItems, no_items, more_items, PlainPath, no_keys, more_keys}
use Rattle.php_syntax.specs.Height.{height, maybe_height, exprs_height, items_height, path_height}
use Rattle.script_grammar.specs.Rules.{is_known, is_writable, is_place, all_places, all_keyed, keyed_before_last, expr_fits, maybe_fits, exprs_fit, items_fit, path_fits}
use Rattle.spellable.specs.Spellable.{is_name, is_call_name, is_own_name, is_integer, is_some_exprs, are_parts, expr_spellable, maybe_spellable, exprs_spellable, items_spellable, path_spellable}
use Rattle.php_writer.specs.Tested.{deep, is_target, expr_good, maybe_good, exprs_good, items_good, path_good, parts_good}
use Rattle.spellable.proofs.Halves.{halves}
use Rattle.spellable.proofs.BackNames.{and_true}
use Rattle.php_writer.proofs.TestedSound.{is_deep, Sound, IsSound, IsSoundMaybe, AreSound, AreSoundItems, AreSoundKeys}

pub some_room : (n d : ℕ) → 1 + n ≤ d → 0 < d
some_room n d h = omega arith

pub leaf_room : (d : ℕ) (s f : Bool) → Sound 1 d s f → 0 < d
leaf_room d s f h = let j : 1 ≤ d = h.is_high in omega arith

pub under_one : (d m : ℕ) (s f : Bool) → Sound (1 + m) d s f → (0 < d) × Sound m (d - 1) s f
under_one d m s f h = let j : 1 + m ≤ d = h.is_high in (omega arith, record { is_high = omega arith; is_spelled = h.is_spelled; is_fit = h.is_fit })

pub under_two : (d m n : ℕ) (s t f g : Bool) → Sound (1 + max m n) d (s && t) (f && g) → (0 < d) × Sound m (d - 1) s f × Sound n (d - 1) t g
under_two d m n s t f g h =
    let j : 1 + max m n ≤ d = h.is_high in let a = halves s t h.is_spelled in let b = halves f g h.is_fit
    in (omega arith, record { is_high = omega arith; is_spelled = a.0; is_fit = b.0 }, record { is_high = omega arith; is_spelled = a.1; is_fit = b.1 })

pub apart_two : (d m n : ℕ) (s t f g : Bool) → Sound (max m n) d (s && t) (f && g) → Sound m d s f × Sound n d t g
apart_two d m n s t f g h =
    let j : max m n ≤ d = h.is_high in let a = halves s t h.is_spelled in let b = halves f g h.is_fit
    in (record { is_high = omega arith; is_spelled = a.0; is_fit = b.0 }, record { is_high = omega arith; is_spelled = a.1; is_fit = b.1 })

-- an assignment, of either kind
assigned_tests : (x : List ℕ) (ks : PlainPath) (e : PlainExpr) (keyed : Bool) (d : ℕ) → Sound (1 + max (1 + path_height ks) (height e)) d (is_name x && (path_spellable ks && expr_spellable e)) (is_writable x && (keyed && (path_fits ks && expr_fits e)))
    → (AreSoundKeys ks ((d - 1) - 1) → path_good ks ((d - 1) - 1) ≡ true) → (IsSound e (d - 1) → expr_good e (d - 1) ≡ true)
    → deep d (deep (d - 1) (is_target x && path_good ks ((d - 1) - 1)) && (keyed && expr_good e (d - 1))) ≡ true
assigned_tests x ks e keyed d h f g =
    let names = halves (is_name x) (path_spellable ks && expr_spellable e) h.is_spelled
    in let rules = halves (is_writable x) (keyed && (path_fits ks && expr_fits e)) h.is_fit
    in let keys = halves keyed (path_fits ks && expr_fits e) rules.1
    in let parts = under_two d (1 + path_height ks) (height e) (path_spellable ks) (expr_spellable e) (path_fits ks) (expr_fits e) (record { is_high = h.is_high; is_spelled = names.1; is_fit = keys.1 })
    in let path = under_one (d - 1) (path_height ks) (path_spellable ks) (path_fits ks) parts.1
    in is_deep d (deep (d - 1) (is_target x && path_good ks ((d - 1) - 1)) && (keyed && expr_good e (d - 1))) parts.0
    (and_true (deep (d - 1) (is_target x && path_good ks ((d - 1) - 1))) (keyed && expr_good e (d - 1))
    (is_deep (d - 1) (is_target x && path_good ks ((d - 1) - 1)) path.0 (and_true (is_target x) (path_good ks ((d - 1) - 1)) (and_true (is_name x) (is_writable x) names.0 rules.0) (f path.1)))
    (and_true keyed (expr_good e (d - 1)) keys.0 (g parts.2)))

mutual
  unfolding expr_good height expr_spellable expr_fits

  pub expr_tests : (e : PlainExpr) (d : ℕ) → IsSound e d → expr_good e d ≡ true
  expr_tests null_expr d h = is_deep d true (leaf_room d true true h) refl
  expr_tests (flag_expr b) d h = is_deep d true (leaf_room d true true h) refl
  expr_tests (int_expr z) d h = is_deep d (is_integer z) (leaf_room d (is_integer z) true h) h.is_spelled
  expr_tests (text_expr t) d h = is_deep d true (leaf_room d true true h) refl
  expr_tests (var_expr x) d h = is_deep d (is_own_name x && is_known x) (leaf_room d (is_own_name x) (is_known x) h) (and_true (is_own_name x) (is_known x) h.is_spelled h.is_fit)
  expr_tests (super_expr s) d h = is_deep d true (leaf_room d true true h) refl
  expr_tests (member_expr a b) d h =
      let parts = under_two d (height a) (height b) (expr_spellable a) (expr_spellable b) (expr_fits a) (expr_fits b) h
      in is_deep d (expr_good a (d - 1) && expr_good b (d - 1)) parts.0 (and_true (expr_good a (d - 1)) (expr_good b (d - 1)) (expr_tests a (d - 1) parts.1) (expr_tests b (d - 1) parts.2))
  expr_tests (array_expr is) d h = let parts = under_one d (items_height is) (items_spellable is) (items_fit is) h in is_deep d (items_good is (d - 1)) parts.0 (items_test is (d - 1) parts.1)
  expr_tests (join_expr es) d h =
      let both = halves (are_parts es) (exprs_spellable es) h.is_spelled
      in let parts = under_one d (exprs_height es) (exprs_spellable es) (exprs_fit es) (record { is_high = h.is_high; is_spelled = both.1; is_fit = h.is_fit })
      in is_deep d (exprs_good es (d - 1) && are_parts es) parts.0 (and_true (exprs_good es (d - 1)) (are_parts es) (exprs_test es (d - 1) parts.1) both.0)
  expr_tests (neg_expr a) d h = let parts = under_one d (height a) (expr_spellable a) (expr_fits a) h in is_deep d (expr_good a (d - 1)) parts.0 (expr_tests a (d - 1) parts.1)
  expr_tests (not_expr a) d h = let parts = under_one d (height a) (expr_spellable a) (expr_fits a) h in is_deep d (expr_good a (d - 1)) parts.0 (expr_tests a (d - 1) parts.1)
  expr_tests (arith_expr s a b) d h =
      let parts = under_two d (height a) (height b) (expr_spellable a) (expr_spellable b) (expr_fits a) (expr_fits b) h
      in is_deep d (expr_good a (d - 1) && expr_good b (d - 1)) parts.0 (and_true (expr_good a (d - 1)) (expr_good b (d - 1)) (expr_tests a (d - 1) parts.1) (expr_tests b (d - 1) parts.2))
  expr_tests (compare_expr s a b) d h =
      let parts = under_two d (height a) (height b) (expr_spellable a) (expr_spellable b) (expr_fits a) (expr_fits b) h
      in is_deep d (expr_good a (d - 1) && expr_good b (d - 1)) parts.0 (and_true (expr_good a (d - 1)) (expr_good b (d - 1)) (expr_tests a (d - 1) parts.1) (expr_tests b (d - 1) parts.2))
  expr_tests (and_expr a b) d h =
      let parts = under_two d (height a) (height b) (expr_spellable a) (expr_spellable b) (expr_fits a) (expr_fits b) h
      in is_deep d (expr_good a (d - 1) && expr_good b (d - 1)) parts.0 (and_true (expr_good a (d - 1)) (expr_good b (d - 1)) (expr_tests a (d - 1) parts.1) (expr_tests b (d - 1) parts.2))
  expr_tests (or_expr a b) d h =
      let parts = under_two d (height a) (height b) (expr_spellable a) (expr_spellable b) (expr_fits a) (expr_fits b) h
      in is_deep d (expr_good a (d - 1) && expr_good b (d - 1)) parts.0 (and_true (expr_good a (d - 1)) (expr_good b (d - 1)) (expr_tests a (d - 1) parts.1) (expr_tests b (d - 1) parts.2))
  expr_tests (coalesce_expr a b) d h =
      let parts = under_two d (height a) (height b) (expr_spellable a) (expr_spellable b) (expr_fits a) (expr_fits b) h
      in is_deep d (expr_good a (d - 1) && expr_good b (d - 1)) parts.0 (and_true (expr_good a (d - 1)) (expr_good b (d - 1)) (expr_tests a (d - 1) parts.1) (expr_tests b (d - 1) parts.2))
  expr_tests (choice_expr a m b) d h =
      let parts = under_two d (height a) (max (maybe_height m) (height b)) (expr_spellable a) (maybe_spellable m && expr_spellable b) (expr_fits a) (maybe_fits m && expr_fits b) h
      in let rest = apart_two (d - 1) (maybe_height m) (height b) (maybe_spellable m) (expr_spellable b) (maybe_fits m) (expr_fits b) parts.2
      in is_deep d ((expr_good a (d - 1) && expr_good b (d - 1)) && maybe_good m (d - 1)) parts.0
      (and_true (expr_good a (d - 1) && expr_good b (d - 1)) (maybe_good m (d - 1)) (and_true (expr_good a (d - 1)) (expr_good b (d - 1)) (expr_tests a (d - 1) parts.1) (expr_tests b (d - 1) rest.1)) (maybe_tests m (d - 1) rest.0))
  expr_tests (isset_expr es) d h =
      let spelled = halves (is_some_exprs es) (exprs_spellable es) h.is_spelled in let fits = halves (all_places es) (exprs_fit es) h.is_fit
      in let parts = under_one d (exprs_height es) (exprs_spellable es) (exprs_fit es) (record { is_high = h.is_high; is_spelled = spelled.1; is_fit = fits.1 })
      in is_deep d (exprs_good es (d - 1) && (is_some_exprs es && all_places es)) parts.0 (and_true (exprs_good es (d - 1)) (is_some_exprs es && all_places es) (exprs_test es (d - 1) parts.1) (and_true (is_some_exprs es) (all_places es) spelled.0 fits.0))
  expr_tests (empty_expr a) d h =
      let fits = halves (is_place a) (expr_fits a) h.is_fit
      in let parts = under_one d (height a) (expr_spellable a) (expr_fits a) (record { is_high = h.is_high; is_spelled = h.is_spelled; is_fit = fits.1 })
      in is_deep d (expr_good a (d - 1) && is_place a) parts.0 (and_true (expr_good a (d - 1)) (is_place a) (expr_tests a (d - 1) parts.1) fits.0)
  expr_tests (assign_expr x ks e) d h = assigned_tests x ks e (keyed_before_last ks) d h (λ g. keys_test ks ((d - 1) - 1) g) (λ g. expr_tests e (d - 1) g)
  expr_tests (update_expr s x ks e) d h = assigned_tests x ks e (all_keyed ks) d h (λ g. keys_test ks ((d - 1) - 1) g) (λ g. expr_tests e (d - 1) g)
  expr_tests (step_expr x up before) d h = is_deep d (is_target x) (leaf_room d (is_name x) (is_writable x) h) (and_true (is_name x) (is_writable x) h.is_spelled h.is_fit)
  expr_tests (call_expr f es) d h =
      let both = halves (is_call_name f) (exprs_spellable es) h.is_spelled
      in let parts = under_one d (exprs_height es) (exprs_spellable es) (exprs_fit es) (record { is_high = h.is_high; is_spelled = both.1; is_fit = h.is_fit })
      in is_deep d (is_call_name f && exprs_good es (d - 1)) parts.0 (and_true (is_call_name f) (exprs_good es (d - 1)) both.0 (exprs_test es (d - 1) parts.1))

  pub maybe_tests : (m : MaybeExpr) (d : ℕ) → IsSoundMaybe m d → maybe_good m d ≡ true
  maybe_tests no_expr d h = refl
  maybe_tests (some_expr e) d h = expr_tests e d h

  pub exprs_test : (es : PlainExprs) (d : ℕ) → AreSound es d → exprs_good es d ≡ true
  exprs_test no_exprs d h = refl
  exprs_test (more_exprs e es) d h =
      let parts = apart_two d (height e) (exprs_height es) (expr_spellable e) (exprs_spellable es) (expr_fits e) (exprs_fit es) h
      in and_true (expr_good e d) (exprs_good es d) (expr_tests e d parts.0) (exprs_test es d parts.1)

  items_test : (is : PlainItems) (d : ℕ) → AreSoundItems is d → items_good is d ≡ true
  items_test no_items d h = refl
  items_test (more_items k e is) d h =
      let one = apart_two d (maybe_height k) (max (height e) (items_height is)) (maybe_spellable k) (expr_spellable e && items_spellable is) (maybe_fits k) (expr_fits e && items_fit is) h
      in let rest = apart_two d (height e) (items_height is) (expr_spellable e) (items_spellable is) (expr_fits e) (items_fit is) one.1
      in and_true (maybe_good k d && expr_good e d) (items_good is d) (and_true (maybe_good k d) (expr_good e d) (maybe_tests k d one.0) (expr_tests e d rest.0)) (items_test is d rest.1)

  keys_test : (ks : PlainPath) (d : ℕ) → AreSoundKeys ks d → path_good ks d ≡ true
  keys_test no_keys d h = refl
  keys_test (more_keys k ks) d h =
      let parts = apart_two d (maybe_height k) (path_height ks) (maybe_spellable k) (path_spellable ks) (maybe_fits k) (path_fits ks) h
      in and_true (maybe_good k d) (path_good ks d) (maybe_tests k d parts.0) (keys_test ks d parts.1)

-- the test of an expression is room for it, and the test of its parts
pub expr_parts : (e : PlainExpr) (d : ℕ) → expr_good e d ≡ deep d (parts_good e (d - 1))
unfolding expr_good
expr_parts null_expr d = refl
expr_parts (flag_expr b) d = refl
expr_parts (int_expr z) d = refl
expr_parts (text_expr t) d = refl
expr_parts (var_expr x) d = refl
expr_parts (super_expr s) d = refl
expr_parts (member_expr a b) d = refl
expr_parts (array_expr is) d = refl
expr_parts (join_expr es) d = refl
expr_parts (neg_expr a) d = refl
expr_parts (not_expr a) d = refl
expr_parts (arith_expr s a b) d = refl
expr_parts (compare_expr s a b) d = refl
expr_parts (and_expr a b) d = refl
expr_parts (or_expr a b) d = refl
expr_parts (coalesce_expr a b) d = refl
expr_parts (choice_expr a m b) d = refl
expr_parts (isset_expr es) d = refl
expr_parts (empty_expr a) d = refl
expr_parts (assign_expr x ks e) d = refl
expr_parts (update_expr s x ks e) d = refl
expr_parts (step_expr x up before) d = refl
expr_parts (call_expr f es) d = refl
