-- Quiet expressions leave the state as it was.
use Rattle.std.proofs.Common.{◌≡◌, refl, sym, subst, true, false, Bool}
use Rattle.std.specs.Prelude.{if◌then◌else◌, ⊤, Result, Ok, Err}
use Rattle.php_syntax.specs.Trees.{PlainExpr, null_expr, flag_expr, int_expr, text_expr, var_expr, super_expr, member_expr, array_expr, join_expr, neg_expr, not_expr, arith_expr, compare_expr, and_expr, or_expr, coalesce_expr, choice_expr, isset_expr, empty_expr, assign_expr, update_expr, step_expr, call_expr, MaybeExpr, no_expr, some_expr, PlainExprs, no_exprs, more_exprs, PlainItems, no_items, more_items}
use Rattle.plain_values.specs.Plain.{Plain, array, empty}
use Rattle.plain_values.specs.Text.{truth}
use Rattle.plain_values.specs.Walks.{is_null}
use Rattle.plain_values.specs.Joins.{join_of}
use Rattle.plain_values.specs.Arithmetic.{negation_of}
use Rattle.plain_values.specs.Paths.{subscript_of, add_item}
use Rattle.plain_values.specs.declared.fault.Fault.{Fault}
use Rattle.script_meaning.specs.Runs.{State, Run, Going, Over, ◌then_do◌, result_of}
use Rattle.script_meaning.specs.Expressions.{Environment, arithmetic, comparison, value, values, maybe_value, items_in}
use Rattle.script_meaning.specs.Quiet.{IsQuiet, MaybeQuiet, AreQuiet, ItemsAreQuiet}

-- a run from a state that comes to the same state, where it goes on
abbrev pub Keeps : {A : Type 0} → State → Run A → Type 0
Keeps s (Going x t) = t ≡ s
Keeps s (Over end printed) = ⊤

keeps_then : {A B : Type 0} (s : State) (r : Run A) (go : A → State → Run B) → Keeps s r → ((x : A) → Keeps s (go x s)) → Keeps s (r then_do go)
unfolding ◌then_do◌
keeps_then s (Going x t) go e h = subst (λ u. Keeps s (go x u)) (sym e) (h x)
keeps_then s (Over end printed) go e h = tt

keeps_result : {A : Type 0} (r : Result A Fault) (s : State) → Keeps s (result_of r s)
unfolding result_of
keeps_result (Ok x) s = refl
keeps_result (Err fault) s = tt

keeps_if : {A : Type 0} (s : State) (c : Bool) (a b : Run A) → Keeps s a → Keeps s b → Keeps s (if c then a else b)
keeps_if s true a b p q = p
keeps_if s false a b p q = q

mutual
  unfolding value IsQuiet

  pub keeps_value : (w : Environment) (e : PlainExpr) → IsQuiet e → (s : State) → Keeps s (value w e s)
  keeps_value w null_expr q s = refl
  keeps_value w (flag_expr b) q s = refl
  keeps_value w (int_expr z) q s = refl
  keeps_value w (text_expr t) q s = refl
  keeps_value w (var_expr x) q s = refl
  keeps_value w (super_expr name) q s = refl
  keeps_value w (member_expr a k) q s = keeps_then s _ _ (keeps_value w a q.0 s) λ v. keeps_then s _ _ (keeps_value w k q.1 s) λ k. keeps_result (subscript_of v k) s
  keeps_value w (array_expr items) q s = keeps_items w items q (array empty) s
  keeps_value w (join_expr parts) q s = keeps_then s _ _ (keeps_values w parts q s) λ vs. keeps_result (join_of vs) s
  keeps_value w (neg_expr a) q s = keeps_then s _ _ (keeps_value w a q s) λ v. keeps_result (negation_of v) s
  keeps_value w (not_expr a) q s = keeps_then s _ _ (keeps_value w a q s) λ v. refl
  keeps_value w (arith_expr sign a b) q s = keeps_then s _ _ (keeps_value w a q.0 s) λ x. keeps_then s _ _ (keeps_value w b q.1 s) λ y. keeps_result (arithmetic sign x y) s
  keeps_value w (compare_expr sign a b) q s =
      keeps_then s _ _ (keeps_value w a q.0 s) λ x. keeps_then s _ _ (keeps_value w b q.1 s) λ y. keeps_then s _ _ (keeps_result (comparison sign x y) s) λ answer. refl
  keeps_value w (and_expr a b) q s = keeps_then s _ _ (keeps_value w a q.0 s) λ v. keeps_if s (truth v) _ _ (keeps_then s _ _ (keeps_value w b q.1 s) λ x. refl) refl
  keeps_value w (or_expr a b) q s = keeps_then s _ _ (keeps_value w a q.0 s) λ v. keeps_if s (truth v) _ _ refl (keeps_then s _ _ (keeps_value w b q.1 s) λ x. refl)
  keeps_value w (coalesce_expr a b) q s = keeps_then s _ _ (keeps_value w a q.0 s) λ v. keeps_if s (is_null v) _ _ (keeps_value w b q.1 s) refl
  keeps_value w (choice_expr c no_expr b) q s = keeps_then s _ _ (keeps_value w c q.0 s) λ v. keeps_if s (truth v) _ _ refl (keeps_value w b q.2 s)
  keeps_value w (choice_expr c (some_expr a) b) q s = keeps_then s _ _ (keeps_value w c q.0 s) λ v. keeps_if s (truth v) _ _ (keeps_value w a q.1 s) (keeps_value w b q.2 s)
  keeps_value w (isset_expr parts) q s = keeps_then s _ _ (keeps_values w parts q s) λ vs. refl
  keeps_value w (empty_expr a) q s = keeps_then s _ _ (keeps_value w a q s) λ v. refl
  keeps_value w (assign_expr x path e) q s = absurd q
  keeps_value w (update_expr sign x path e) q s = absurd q
  keeps_value w (step_expr x up before) q s = absurd q
  keeps_value w (call_expr name args) q s = absurd q

  pub keeps_values : (w : Environment) (es : PlainExprs) → AreQuiet es → (s : State) → Keeps s (values w es s)
  keeps_values w no_exprs q s = refl
  keeps_values w (more_exprs e es) q s = keeps_then s _ _ (keeps_value w e q.0 s) λ v. keeps_then s _ _ (keeps_values w es q.1 s) λ vs. refl

  pub keeps_maybe : (w : Environment) (m : MaybeExpr) → MaybeQuiet m → (s : State) → Keeps s (maybe_value w m s)
  keeps_maybe w no_expr q s = refl
  keeps_maybe w (some_expr e) q s = keeps_then s _ _ (keeps_value w e q s) λ v. refl

  pub keeps_items : (w : Environment) (is : PlainItems) → ItemsAreQuiet is → (made : Plain) (s : State) → Keeps s (items_in w is made s)
  keeps_items w no_items q made s = refl
  keeps_items w (more_items k e is) q made s =
      keeps_then s _ _ (keeps_maybe w k q.0 s) λ key. keeps_then s _ _ (keeps_value w e q.1 s) λ new. keeps_then s _ _ (keeps_result (add_item made key new) s) λ made. keeps_items w is q.2 made s
