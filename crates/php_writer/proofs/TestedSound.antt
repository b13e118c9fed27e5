-- What the one test of an expression says.
use Rattle.std.proofs.Common.{◌≡◌, ℕ, ◌+◌, ◌-◌, ◌<◌, ◌≤◌, max, Bool, true, ◌&&◌, List, refl, arith}
use Rattle.std.specs.Prelude.{nat_lt}
use Rattle.std.proofs.lemmas.Bool.Decides.{nat_tests}
use Rattle.php_syntax.specs.Trees.{PlainExpr, null_expr, flag_expr, int_expr, text_expr, var_expr, super_expr, member_expr, array_expr, join_expr, neg_expr, not_expr, arith_expr, compare_expr, and_expr, or_expr, coalesce_expr, choice_expr, isset_expr, empty_expr, assign_expr, update_expr, step_expr, call_expr, MaybeExpr, no_expr, some_expr, PlainExprs, no_exprs, more_exprs, PlainItems, no_items, more_items, PlainPath, no_keys, more_keys}
use Rattle.php_syntax.specs.Height.{height, maybe_height, exprs_height, items_height, path_height}
use Rattle.script_grammar.specs.Rules.{is_known, is_writable, is_place, all_places, all_keyed, keyed_before_last, expr_fits, maybe_fits, exprs_fit, items_fit, path_fits}
use Rattle.spellable.specs.Spellable.{is_name, is_call_name, is_own_name, is_integer, is_some_exprs, are_parts, expr_spellable, maybe_spellable, exprs_spellable, items_spellable, path_spellable}
use Rattle.php_writer.specs.Tested.{deep, is_target, expr_good, maybe_good, exprs_good, items_good, path_good}
use Rattle.spellable.proofs.Halves.{halves}
use Rattle.spellable.proofs.BackNames.{and_true}

pub deep_is : (d : ℕ) (b : Bool) → deep d b ≡ true → (0 < d) × (b ≡ true)
unfolding deep
deep_is d b h = let both = halves (nat_lt 0 d) b h in (some d both.0, both.1)
  where
    some : (n : ℕ) → nat_lt 0 n ≡ true → 0 < n
    some n k = grind (arith, nat_tests)

pub is_deep : (d : ℕ) (b : Bool) → 0 < d → b ≡ true → deep d b ≡ true
unfolding deep
is_deep d b h k = and_true (nat_lt 0 d) b (some d h) k
  where
    some : (n : ℕ) → 0 < n → nat_lt 0 n ≡ true
    some n k = grind (arith, nat_tests)

-- so high at most, spellable, and by the rules
pub record Sound (high d : ℕ) (spells fits : Bool) : Type 0 where
  pub is_high : high ≤ d
  pub is_spelled : spells ≡ true
  pub is_fit : fits ≡ true

abbrev pub IsSound : PlainExpr → ℕ → Type 0
IsSound e d = Sound (height e) d (expr_spellable e) (expr_fits e)

abbrev pub IsSoundMaybe : MaybeExpr → ℕ → Type 0
IsSoundMaybe m d = Sound (maybe_height m) d (maybe_spellable m) (maybe_fits m)

abbrev pub AreSound : PlainExprs → ℕ → Type 0
AreSound es d = Sound (exprs_height es) d (exprs_spellable es) (exprs_fit es)

abbrev pub AreSoundItems : PlainItems → ℕ → Type 0
AreSoundItems is d = Sound (items_height is) d (items_spellable is) (items_fit is)

abbrev pub AreSoundKeys : PlainPath → ℕ → Type 0
AreSoundKeys ks d = Sound (path_height ks) d (path_spellable ks) (path_fits ks)

-- a leaf, and nodes with one part or more
pub leaf : (d : ℕ) (s f b : Bool) → deep d b ≡ true → (b ≡ true → (s ≡ true) × (f ≡ true)) → Sound 1 d s f
leaf d s f b h k = let both = deep_is d b h in let parts = k both.1 in record { is_high = omega arith; is_spelled = parts.0; is_fit = parts.1 }

pub over_one : (d m : ℕ) (s f : Bool) → 0 < d → Sound m (d - 1) s f → Sound (1 + m) d s f
over_one d m s f h k = let j : m ≤ d - 1 = k.is_high in record { is_high = omega arith; is_spelled = k.is_spelled; is_fit = k.is_fit }

pub over_two : (d m n : ℕ) (s t f g : Bool) → 0 < d → Sound m (d - 1) s f → Sound n (d - 1) t g → Sound (1 + max m n) d (s && t) (f && g)
over_two d m n s t f g h k l =
    let i : m ≤ d - 1 = k.is_high in let j : n ≤ d - 1 = l.is_high
    in record { is_high = omega arith; is_spelled = and_true s t k.is_spelled l.is_spelled; is_fit = and_true f g k.is_fit l.is_fit }

pub beside : (d m n : ℕ) (s t f g : Bool) → Sound m d s f → Sound n d t g → Sound (max m n) d (s && t) (f && g)
beside d m n s t f g k l =
    let i : m ≤ d = k.is_high in let j : n ≤ d = l.is_high
    in record { is_high = omega arith; is_spelled = and_true s t k.is_spelled l.is_spelled; is_fit = and_true f g k.is_fit l.is_fit }

-- an assignment, of either kind
abbrev Assigned : List ℕ → PlainPath → PlainExpr → Bool → ℕ → Type 0
Assigned x ks e keyed d = Sound (1 + max (1 + path_height ks) (height e)) d (is_name x && (path_spellable ks && expr_spellable e)) (is_writable x && (keyed && (path_fits ks && expr_fits e)))

assigned : (x : List ℕ) (ks : PlainPath) (e : PlainExpr) (keyed : Bool) (d : ℕ) → deep d (deep (d - 1) (is_target x && path_good ks ((d - 1) - 1)) && (keyed && expr_good e (d - 1))) ≡ true
    → (path_good ks ((d - 1) - 1) ≡ true → AreSoundKeys ks ((d - 1) - 1)) → (expr_good e (d - 1) ≡ true → IsSound e (d - 1)) → Assigned x ks e keyed d
assigned x ks e keyed d h f g =
    let one = deep_is d (deep (d - 1) (is_target x && path_good ks ((d - 1) - 1)) && (keyed && expr_good e (d - 1))) h
    in let sides = halves (deep (d - 1) (is_target x && path_good ks ((d - 1) - 1))) (keyed && expr_good e (d - 1)) one.1
    in let inner = deep_is (d - 1) (is_target x && path_good ks ((d - 1) - 1)) sides.0
    in let left = halves (is_target x) (path_good ks ((d - 1) - 1)) inner.1
    in let name = halves (is_name x) (is_writable x) left.0
    in let right = halves keyed (expr_good e (d - 1)) sides.1
    in let keys = over_one (d - 1) (path_height ks) (path_spellable ks) (path_fits ks) inner.0 (f left.1)
    in let parts = over_two d (1 + path_height ks) (height e) (path_spellable ks) (expr_spellable e) (path_fits ks) (expr_fits e) one.0 keys (g right.1)
    in record {
      is_high = parts.is_high;
      is_spelled = and_true (is_name x) (path_spellable ks && expr_spellable e) name.0 parts.is_spelled;
      is_fit = and_true (is_writable x) (keyed && (path_fits ks && expr_fits e)) name.1 (and_true keyed (path_fits ks && expr_fits e) right.0 parts.is_fit);
    }

mutual
  unfolding expr_good height expr_spellable expr_fits

  pub expr_sound : (e : PlainExpr) (d : ℕ) → expr_good e d ≡ true → IsSound e d
  expr_sound null_expr d h = leaf d true true true h (λ k. (refl, refl))
  expr_sound (flag_expr b) d h = leaf d true true true h (λ k. (refl, refl))
  expr_sound (int_expr z) d h = leaf d (is_integer z) true (is_integer z) h (λ k. (k, refl))
  expr_sound (text_expr t) d h = leaf d true true true h (λ k. (refl, refl))
  expr_sound (var_expr x) d h = leaf d (is_own_name x) (is_known x) (is_own_name x && is_known x) h (λ k. halves (is_own_name x) (is_known x) k)
  expr_sound (super_expr s) d h = leaf d true true true h (λ k. (refl, refl))
  expr_sound (member_expr a b) d h =
      let one = deep_is d (expr_good a (d - 1) && expr_good b (d - 1)) h in let both = halves (expr_good a (d - 1)) (expr_good b (d - 1)) one.1
      in over_two d (height a) (height b) (expr_spellable a) (expr_spellable b) (expr_fits a) (expr_fits b) one.0 (expr_sound a (d - 1) both.0) (expr_sound b (d - 1) both.1)
  expr_sound (array_expr is) d h = let one = deep_is d (items_good is (d - 1)) h in over_one d (items_height is) (items_spellable is) (items_fit is) one.0 (items_sound is (d - 1) one.1)
  expr_sound (join_expr es) d h =
      let one = deep_is d (exprs_good es (d - 1) && are_parts es) h in let both = halves (exprs_good es (d - 1)) (are_parts es) one.1
      in let parts = over_one d (exprs_height es) (exprs_spellable es) (exprs_fit es) one.0 (exprs_sound es (d - 1) both.0)
      in record { is_high = parts.is_high; is_spelled = and_true (are_parts es) (exprs_spellable es) both.1 parts.is_spelled; is_fit = parts.is_fit }
  expr_sound (neg_expr a) d h = let one = deep_is d (expr_good a (d - 1)) h in over_one d (height a) (expr_spellable a) (expr_fits a) one.0 (expr_sound a (d - 1) one.1)
  expr_sound (not_expr a) d h = let one = deep_is d (expr_good a (d - 1)) h in over_one d (height a) (expr_spellable a) (expr_fits a) one.0 (expr_sound a (d - 1) one.1)
  expr_sound (arith_expr s a b) d h =
      let one = deep_is d (expr_good a (d - 1) && expr_good b (d - 1)) h in let both = halves (expr_good a (d - 1)) (expr_good b (d - 1)) one.1
      in over_two d (height a) (height b) (expr_spellable a) (expr_spellable b) (expr_fits a) (expr_fits b) one.0 (expr_sound a (d - 1) both.0) (expr_sound b (d - 1) both.1)
  expr_sound (compare_expr s a b) d h =
      let one = deep_is d (expr_good a (d - 1) && expr_good b (d - 1)) h in let both = halves (expr_good a (d - 1)) (expr_good b (d - 1)) one.1
      in over_two d (height a) (height b) (expr_spellable a) (expr_spellable b) (expr_fits a) (expr_fits b) one.0 (expr_sound a (d - 1) both.0) (expr_sound b (d - 1) both.1)
  expr_sound (and_expr a b) d h =
      let one = deep_is d (expr_good a (d - 1) && expr_good b (d - 1)) h in let both = halves (expr_good a (d - 1)) (expr_good b (d - 1)) one.1
      in over_two d (height a) (height b) (expr_spellable a) (expr_spellable b) (expr_fits a) (expr_fits b) one.0 (expr_sound a (d - 1) both.0) (expr_sound b (d - 1) both.1)
  expr_sound (or_expr a b) d h =
      let one = deep_is d (expr_good a (d - 1) && expr_good b (d - 1)) h in let both = halves (expr_good a (d - 1)) (expr_good b (d - 1)) one.1
      in over_two d (height a) (height b) (expr_spellable a) (expr_spellable b) (expr_fits a) (expr_fits b) one.0 (expr_sound a (d - 1) both.0) (expr_sound b (d - 1) both.1)
  expr_sound (coalesce_expr a b) d h =
      let one = deep_is d (expr_good a (d - 1) && expr_good b (d - 1)) h in let both = halves (expr_good a (d - 1)) (expr_good b (d - 1)) one.1
      in over_two d (height a) (height b) (expr_spellable a) (expr_spellable b) (expr_fits a) (expr_fits b) one.0 (expr_sound a (d - 1) both.0) (expr_sound b (d - 1) both.1)
  expr_sound (choice_expr a m b) d h =
      let one = deep_is d ((expr_good a (d - 1) && expr_good b (d - 1)) && maybe_good m (d - 1)) h
      in let outer = halves (expr_good a (d - 1) && expr_good b (d - 1)) (maybe_good m (d - 1)) one.1
      in let both = halves (expr_good a (d - 1)) (expr_good b (d - 1)) outer.0
      in over_two d (height a) (max (maybe_height m) (height b)) (expr_spellable a) (maybe_spellable m && expr_spellable b) (expr_fits a) (maybe_fits m && expr_fits b) one.0 (expr_sound a (d - 1) both.0)
      (beside (d - 1) (maybe_height m) (height b) (maybe_spellable m) (expr_spellable b) (maybe_fits m) (expr_fits b) (maybe_sound m (d - 1) outer.1) (expr_sound b (d - 1) both.1))
  expr_sound (isset_expr es) d h =
      let one = deep_is d (exprs_good es (d - 1) && (is_some_exprs es && all_places es)) h
      in let both = halves (exprs_good es (d - 1)) (is_some_exprs es && all_places es) one.1
      in let rest = halves (is_some_exprs es) (all_places es) both.1
      in let parts = over_one d (exprs_height es) (exprs_spellable es) (exprs_fit es) one.0 (exprs_sound es (d - 1) both.0)
      in record { is_high = parts.is_high; is_spelled = and_true (is_some_exprs es) (exprs_spellable es) rest.0 parts.is_spelled; is_fit = and_true (all_places es) (exprs_fit es) rest.1 parts.is_fit }
  expr_sound (empty_expr a) d h =
      let one = deep_is d (expr_good a (d - 1) && is_place a) h in let both = halves (expr_good a (d - 1)) (is_place a) one.1
      in let part = over_one d (height a) (expr_spellable a) (expr_fits a) one.0 (expr_sound a (d - 1) both.0)
      in record { is_high = part.is_high; is_spelled = part.is_spelled; is_fit = and_true (is_place a) (expr_fits a) both.1 part.is_fit }
  expr_sound (assign_expr x ks e) d h = assigned x ks e (keyed_before_last ks) d h (λ g. keys_sound ks ((d - 1) - 1) g) (λ g. expr_sound e (d - 1) g)
  expr_sound (update_expr s x ks e) d h = assigned x ks e (all_keyed ks) d h (λ g. keys_sound ks ((d - 1) - 1) g) (λ g. expr_sound e (d - 1) g)
  expr_sound (step_expr x up before) d h = leaf d (is_name x) (is_writable x) (is_target x) h (λ k. halves (is_name x) (is_writable x) k)
  expr_sound (call_expr f es) d h =
      let one = deep_is d (is_call_name f && exprs_good es (d - 1)) h in let both = halves (is_call_name f) (exprs_good es (d - 1)) one.1
      in let parts = over_one d (exprs_height es) (exprs_spellable es) (exprs_fit es) one.0 (exprs_sound es (d - 1) both.1)
      in record { is_high = parts.is_high; is_spelled = and_true (is_call_name f) (exprs_spellable es) both.0 parts.is_spelled; is_fit = parts.is_fit }

  pub maybe_sound : (m : MaybeExpr) (d : ℕ) → maybe_good m d ≡ true → IsSoundMaybe m d
  maybe_sound no_expr d h = record { is_high = omega arith; is_spelled = refl; is_fit = refl }
  maybe_sound (some_expr e) d h = expr_sound e d h

  pub exprs_sound : (es : PlainExprs) (d : ℕ) → exprs_good es d ≡ true → AreSound es d
  exprs_sound no_exprs d h = record { is_high = omega arith; is_spelled = refl; is_fit = refl }
  exprs_sound (more_exprs e es) d h =
      let both = halves (expr_good e d) (exprs_good es d) h
      in beside d (height e) (exprs_height es) (expr_spellable e) (exprs_spellable es) (expr_fits e) (exprs_fit es) (expr_sound e d both.0) (exprs_sound es d both.1)

  items_sound : (is : PlainItems) (d : ℕ) → items_good is d ≡ true → AreSoundItems is d
  items_sound no_items d h = record { is_high = omega arith; is_spelled = refl; is_fit = refl }
  items_sound (more_items k e is) d h =
      let one = halves (maybe_good k d && expr_good e d) (items_good is d) h in let both = halves (maybe_good k d) (expr_good e d) one.0
      in beside d (maybe_height k) (max (height e) (items_height is)) (maybe_spellable k) (expr_spellable e && items_spellable is) (maybe_fits k) (expr_fits e && items_fit is) (maybe_sound k d both.0)
      (beside d (height e) (items_height is) (expr_spellable e) (items_spellable is) (expr_fits e) (items_fit is) (expr_sound e d both.1) (items_sound is d one.1))

  keys_sound : (ks : PlainPath) (d : ℕ) → path_good ks d ≡ true → AreSoundKeys ks d
  keys_sound no_keys d h = record { is_high = omega arith; is_spelled = refl; is_fit = refl }
  keys_sound (more_keys k ks) d h =
      let both = halves (maybe_good k d) (path_good ks d) h
      in beside d (maybe_height k) (path_height ks) (maybe_spellable k) (path_spellable ks) (maybe_fits k) (path_fits ks) (maybe_sound k d both.0) (keys_sound ks d both.1)
