-- The points of an expression do what it does.
use Rattle.std.proofs.Common.{◌≡◌, ℕ, ◌+◌, List, [], ◌∷◌, ◌++◌, length, Some, None, Option, refl, ◌∙◌, arith, Bool, true, not, Ok}
use Rattle.std.specs.List.{list_all}
use Rattle.php_syntax.specs.declared.tree.UpdateSign.{UpdateSign}
use Rattle.php_syntax.specs.declared.tree.UpdateSign.TheVariants as update
use Rattle.php_syntax.specs.declared.tree.ArithSign.{ArithSign}
use Rattle.php_syntax.specs.declared.tree.CompareSign.{CompareSign}
use Rattle.php_syntax.specs.Trees.{PlainExpr, null_expr, flag_expr, int_expr, text_expr, var_expr, super_expr, member_expr, array_expr, join_expr, neg_expr, not_expr, arith_expr, compare_expr, and_expr, or_expr, coalesce_expr, choice_expr, isset_expr, empty_expr, assign_expr, update_expr, step_expr, call_expr, MaybeExpr, no_expr, some_expr, PlainExprs, no_exprs, more_exprs, PlainItems, no_items, more_items, PlainPath, no_keys, more_keys}
use Rattle.plain_values.specs.Plain.{Plain, null, flag, int, text, array}
use Rattle.plain_values.specs.Text.{truth}
use Rattle.plain_values.specs.Arithmetic.{negation_of}
use Rattle.plain_values.specs.Walks.{is_null}
use Rattle.plain_values.specs.Paths.{subscript_of, path_of}
use Rattle.builtin_meaning.specs.Names.{builtin_named}
use Rattle.script_meaning.specs.Requests.{request_array}
use Rattle.script_meaning.specs.Runs.{State, Run, Going, Over, ◌then_do◌, result_of, value_in}
use Rattle.script_meaning.specs.Expressions.{Environment, arithmetic, comparison, value, values, maybe_value, subscripts, is_kept, update_at}
use Rattle.flow_code.specs.declared.source.Work.TheVariants as work
use Rattle.flow_code.specs.Points.{PlainKeyRef, int_ref, text_ref, read_ref, PlainSource, copy_source, super_source, member_source, number_source, truth_source}
use Rattle.program_expressions.specs.Collected.{collected}
use Rattle.flow_code.specs.Variables.{own_names, names_in, maybe_names, names_in_all, item_names, path_names}
use Rattle.flow_code.specs.Code.{Code, both, computed}
use Rattle.flow_code.specs.Expressions.{Begun, Scope, variable, function_in, code, codes, maybe_key, path_code, items_code, key_code, old_value, update_code, number_of, length_of_path}
use Rattle.flow_code.specs.Runs.{Slots, key_value, maybe_key_value, source_value, worked}
use Rattle.flow_runs.specs.Defaults.{HaveDefaults}
use Rattle.flow_runs.proofs.Ends.{World, meets_same, then_same}
use Rattle.flow_runs.proofs.Names.{Has, HasAll, all_front, all_back}
use Rattle.flow_runs.proofs.Codes.{at_slot, Does, does_as, does_same, does_known, does_left, does_both, does_computed, as_copy, does_and, does_or, does_first_there, does_chosen, does_chosen_itself}
use Rattle.flow_runs.proofs.Writes.{Keys, KeyValues, AllKeyed, read_keys, read_write, does_stored, does_old, does_updated, does_filled, does_step}
use Rattle.flow_runs.proofs.Calls.{read_slots, env, CallsDo, neg_value, does_source, does_literal, does_call}
use Rattle.flow_runs.proofs.Literals.{values_literals}
use Rattle.flow_runs.proofs.Agreement.{paired_then, flagged, update_agrees, filled_agrees}
use Rattle.flow_runs.proofs.Items.{Made, read_item, read_begun, items_made, item_first, does_one_item, does_no_item, does_array, does_join, keys_known}
use Rattle.flow_runs.specs.Keyed.{ExprKeyed, MaybeKeyed, ExprsKeyed, ItemsKeyed, PathKeyed}

pub codes_count : (w : Scope) (es : PlainExprs) (t : ℕ) → length ((codes w es).gives t) ≡ number_of es
unfolding code number_of
codes_count w no_exprs t = refl
codes_count w (more_exprs e es) t = let h = codes_count w es (t + (code w e).slots) in omega (arith, h)

pub path_count : (w : Scope) (ks : PlainPath) (t : ℕ) → length ((path_code w ks).gives t) ≡ length_of_path ks
unfolding code length_of_path
path_count w no_keys t = refl
path_count w (more_keys k ks) t = let h = path_count w ks (t + (maybe_key w k).slots) in omega (arith, h)

made_nothing : (w : Environment) (r : Run Made) → r ≡ (r then_do items_made w no_items)
unfolding items_made ◌then_do◌
made_nothing w (Going b s) = refl
made_nothing w (Over end out) = refl

module _ {m : World} {w : Scope} where
  key_does : (e : PlainExpr) → Does m w ℕ Plain (code w e) at_slot (value (env m w.functions) e) → Does m w PlainKeyRef Plain (key_code e (code w e)) key_value (value (env m w.functions) e)
  unfolding code key_code value key_value ◌then_do◌
  key_does (int_expr z) d = does_known key_value (int_ref z) (int z) (λ f. refl)
  key_does (text_expr t) d = does_known key_value (text_ref t) (text t) (λ f. refl)
  key_does e d = does_same _ _ (λ s. same (value (env m w.functions) e s)) (does_left key_value read_ref (λ v. v) (λ f x. refl) d)
    where
      same : (r : Run Plain) → (r then_do λ v s. Going v s) ≡ r
      same (Going v s) = refl
      same (Over end printed) = refl

  update_does : {path : Code Keys} {right : Code ℕ} (run : State → Run KeyValues) (run_right : State → Run Plain) (sign : UpdateSign) (x : List ℕ) (n : ℕ) → Has w.names x → ((t : ℕ) → length (path.gives t) ≡ n) → ((s t : State) (ks : KeyValues) → run s ≡ Going ks t → m.strict ≡ true → AllKeyed ks) → Does m w Keys KeyValues path read_keys run → Does m w ℕ Plain right at_slot run_right → Does m w ℕ Plain (update_code sign (variable w x) (old_value (variable w x) n path) right) at_slot (λ s. run s then_do λ ks s. (result_of (path_of ks) s then_do λ path s. update_at sign x path run_right s))
  unfolding update_code is_kept
  update_does run right update.Coalesce x n hx count keyed d e = does_as _ _ (λ s. filled_agrees x right (run s)) (does_filled x hx (does_old x n hx count keyed d) e)
  update_does run right update.Join x n hx count keyed d e = does_as _ _ (λ s. update_agrees x update.Join (λ old. refl) right (run s)) (does_updated update.Join x hx (does_old x n hx count keyed d) e)
  update_does run right update.Add x n hx count keyed d e = does_as _ _ (λ s. update_agrees x update.Add (λ old. refl) right (run s)) (does_updated update.Add x hx (does_old x n hx count keyed d) e)
  update_does run right update.Sub x n hx count keyed d e = does_as _ _ (λ s. update_agrees x update.Sub (λ old. refl) right (run s)) (does_updated update.Sub x hx (does_old x n hx count keyed d) e)
  update_does run right update.Mul x n hx count keyed d e = does_as _ _ (λ s. update_agrees x update.Mul (λ old. refl) right (run s)) (does_updated update.Mul x hx (does_old x n hx count keyed d) e)
  update_does run right update.Rem x n hx count keyed d e = does_as _ _ (λ s. update_agrees x update.Rem (λ old. refl) right (run s)) (does_updated update.Rem x hx (does_old x n hx count keyed d) e)

  arith_does : {a b : Code ℕ} (run_a run_b : State → Run Plain) (sign : ArithSign) → Does m w ℕ Plain a at_slot run_a → Does m w ℕ Plain b at_slot run_b → Does m w ℕ Plain (computed (both a b (λ x y. x ∷ y ∷ [])) (number_source (work.Arith sign))) at_slot (λ s. run_a s then_do λ u s. (run_b s then_do λ v s. result_of (arithmetic sign u v) s))
  unfolding source_value worked
  arith_does run_a run_b sign d e =
      does_same _ _ (λ s. paired_then (run_a s) run_b (λ u v. u ∷ v ∷ []) (λ vs s. result_of (worked (work.Arith sign) vs) s))
      (does_computed (number_source (work.Arith sign)) (worked (work.Arith sign)) (λ f xs. meets_same _ _ refl) (does_both read_slots (λ x y. x ∷ y ∷ []) (λ u v. u ∷ v ∷ []) (λ f x y. refl) d e))

  compare_does : {a b : Code ℕ} (run_a run_b : State → Run Plain) (sign : CompareSign) → Does m w ℕ Plain a at_slot run_a → Does m w ℕ Plain b at_slot run_b → Does m w ℕ Plain (computed (both a b (λ x y. x ∷ y ∷ [])) (truth_source (work.Compare sign))) at_slot (λ s. run_a s then_do λ u s. (run_b s then_do λ v s. (result_of (comparison sign u v) s then_do λ answer s. Going (flag answer) s)))
  unfolding source_value worked
  compare_does run_a run_b sign d e =
      does_same _ _ (λ s. paired_then (run_a s) run_b (λ u v. u ∷ v ∷ []) (λ vs s. result_of (worked (work.Compare sign) vs) s) ∙ then_same (run_a s) _ _ (λ u s. then_same (run_b s) _ _ (λ v s. flagged (comparison sign u v) s)))
      (does_computed (truth_source (work.Compare sign)) (worked (work.Compare sign)) (λ f xs. meets_same _ _ refl) (does_both read_slots (λ x y. x ∷ y ∷ []) (λ u v. u ∷ v ∷ []) (λ f x y. refl) d e))

  -- an operation that has no fault
  truth_does : {A V : Type 0} {a : Code A} {ra : Slots → A → V} {run : State → Run V} (source : A → PlainSource) (answer : V → Bool) → ((f : Slots) (x : A) → source_value m.request f (source x) ≡ Ok (flag (answer (ra f x)))) → Does m w A V a ra run → Does m w ℕ Plain (computed a source) at_slot (λ s. run s then_do λ v s. Going (flag (answer v)) s)
  unfolding result_of
  truth_does source answer h d = does_computed source (λ v. Ok (flag (answer v))) h d

  not_does : {a : Code ℕ} {run : State → Run Plain} → Does m w ℕ Plain a at_slot run → Does m w ℕ Plain (computed a (λ x. truth_source work.Not (x ∷ []))) at_slot (λ s. run s then_do λ v s. Going (flag (not (truth v))) s)
  unfolding source_value worked
  not_does d = truth_does (λ x. truth_source work.Not (x ∷ [])) (λ v. not (truth v)) (λ f x. refl) d

  empty_does : {a : Code ℕ} {run : State → Run Plain} → Does m w ℕ Plain a at_slot run → Does m w ℕ Plain (computed a (λ x. truth_source work.Empty (x ∷ []))) at_slot (λ s. run s then_do λ v s. Going (flag (not (truth v))) s)
  unfolding source_value worked
  empty_does d = truth_does (λ x. truth_source work.Empty (x ∷ [])) (λ v. not (truth v)) (λ f x. refl) d

  isset_does : {a : Code (List ℕ)} {run : State → Run (List Plain)} → Does m w (List ℕ) (List Plain) a read_slots run → Does m w ℕ Plain (computed a (truth_source work.Isset)) at_slot (λ s. run s then_do λ vs s. Going (flag (list_all (λ v. not (is_null v)) vs)) s)
  unfolding source_value worked
  isset_does d = truth_does (truth_source work.Isset) (list_all (λ v. not (is_null v))) (λ f x. refl) d

  member_does : {a : Code ℕ} {k : Code PlainKeyRef} (run_a run_k : State → Run Plain) → Does m w ℕ Plain a at_slot run_a → Does m w PlainKeyRef Plain k key_value run_k → Does m w ℕ Plain (computed (both a k (λ x key. member_source x key)) (λ source. source)) at_slot (λ s. run_a s then_do λ v s. (run_k s then_do λ subscript s. result_of (subscript_of v subscript) s))
  unfolding source_value
  member_does run_a run_k d e =
      does_same _ _ (λ s. paired_then (run_a s) run_k subscript_of (λ r s. result_of r s))
      (does_computed (λ source. source) (λ r. r) (λ f x. meets_same _ _ refl) (does_both (source_value m.request) (λ x key. member_source x key) subscript_of (λ f x key. refl) d e))

  super_does : (name : _) → Does m w ℕ Plain (code w (super_expr name)) at_slot (value (env m w.functions) (super_expr name))
  unfolding source_value code value
  super_does name = does_source (super_source name) (λ s. array (request_array m.request name)) (λ s f shows. refl)

  module _ (calls : CallsDo m w.functions) (defaults : HaveDefaults w.functions) where
    mutual
      unfolding code value collected own_names ExprKeyed

      pub code_does : (e : PlainExpr) → HasAll w.names (names_in e) → (m.strict ≡ true → ExprKeyed e) → Does m w ℕ Plain (code w e) at_slot (value (env m w.functions) e)
      code_does null_expr h o = does_literal null
      code_does (flag_expr b) h o = does_literal (flag b)
      code_does (int_expr z) h o = does_literal (int z)
      code_does (text_expr t) h o = does_literal (text t)
      code_does (var_expr x) h o = does_source (copy_source (variable w x)) (λ s. value_in s.variables x) (λ s f shows. as_copy m.request f.slots _ _ (shows x h.0))
      code_does (super_expr name) h o = super_does name
      code_does (member_expr a k) h o = member_does _ _ (code_does a (all_front w.names (names_in a) (names_in k) h) (λ k. (o k).0)) (key_does k (code_does k (all_back w.names (names_in a) (names_in k) h) (λ k. (o k).1)))
      code_does (array_expr items) h o = does_array (env m w.functions) items (items_does items h o does_no_item)
      code_does (join_expr parts) h o = does_join (env m w.functions) parts (codes_does parts h o)
      code_does (neg_expr a) h o = does_computed (λ x. number_source work.Neg (x ∷ [])) negation_of (neg_value m.request) (code_does a h o)
      code_does (not_expr a) h o = not_does (code_does a h o)
      code_does (arith_expr sign a b) h o = arith_does _ _ sign (code_does a (all_front w.names (names_in a) (names_in b) h) (λ k. (o k).0)) (code_does b (all_back w.names (names_in a) (names_in b) h) (λ k. (o k).1))
      code_does (compare_expr sign a b) h o = compare_does _ _ sign (code_does a (all_front w.names (names_in a) (names_in b) h) (λ k. (o k).0)) (code_does b (all_back w.names (names_in a) (names_in b) h) (λ k. (o k).1))
      code_does (and_expr a b) h o = does_and (code_does a (all_front w.names (names_in a) (names_in b) h) (λ k. (o k).0)) (code_does b (all_back w.names (names_in a) (names_in b) h) (λ k. (o k).1))
      code_does (or_expr a b) h o = does_or (code_does a (all_front w.names (names_in a) (names_in b) h) (λ k. (o k).0)) (code_does b (all_back w.names (names_in a) (names_in b) h) (λ k. (o k).1))
      code_does (coalesce_expr a b) h o = does_first_there (code_does a (all_front w.names (names_in a) (names_in b) h) (λ k. (o k).0)) (code_does b (all_back w.names (names_in a) (names_in b) h) (λ k. (o k).1))
      code_does (choice_expr c no_expr b) h o = does_chosen_itself (code_does c (all_front w.names (names_in c) (names_in b) h) (λ k. (o k).0)) (code_does b (all_back w.names (names_in c) (names_in b) h) (λ k. (o k).2))
      code_does (choice_expr c (some_expr a) b) h o =
          let k = all_back w.names (names_in c) (names_in a ++ names_in b) h in
          does_chosen (code_does c (all_front w.names (names_in c) (names_in a ++ names_in b) h) (λ k. (o k).0)) (code_does a (all_front w.names (names_in a) (names_in b) k) (λ k. (o k).1)) (code_does b (all_back w.names (names_in a) (names_in b) k) (λ k. (o k).2))
      code_does (isset_expr parts) h o = isset_does (codes_does parts h o)
      code_does (empty_expr a) h o = empty_does (code_does a h o)
      code_does (assign_expr x path e) h o =
          does_same _ _ (λ s. paired_then (subscripts (env m w.functions) path s) (value (env m w.functions) e) (λ ks v. (ks, v)) _)
          (does_stored x h.0 (does_both read_write (λ ks v. (ks, v)) (λ ks v. (ks, v)) (λ f ks v. refl) (path_does path (all_front w.names (path_names path) (names_in e) h.1) (λ k. (o k).0)) (code_does e (all_back w.names (path_names path) (names_in e) h.1) (λ k. (o k).1))))
      code_does (update_expr sign x path e) h o = update_does _ _ sign x (length_of_path path) h.0 (path_count w path) (λ s t ks is strict. keys_known (env m w.functions) path s t ks (o strict).0 is) (path_does path (all_front w.names (path_names path) (names_in e) h.1) (λ k. (o k).1)) (code_does e (all_back w.names (path_names path) (names_in e) h.1) (λ k. (o k).2))
      code_does (step_expr x up before) h o = does_step x up before h.0
      code_does (call_expr name args) h o = does_call name args (builtin_named name) (function_in 1 w.functions name) refl refl calls defaults (codes_count w args) (values_literals (env m w.functions) args) (codes_does args h o)

      pub codes_does : (es : PlainExprs) → HasAll w.names (names_in_all es) → (m.strict ≡ true → ExprsKeyed es) → Does m w (List ℕ) (List Plain) (codes w es) read_slots (values (env m w.functions) es)
      codes_does no_exprs h o = does_known read_slots [] [] (λ f. refl)
      codes_does (more_exprs e es) h o = does_both read_slots (λ x xs. x ∷ xs) (λ v vs. v ∷ vs) (λ f x xs. refl) (code_does e (all_front w.names (names_in e) (names_in_all es) h) (λ k. (o k).0)) (codes_does es (all_back w.names (names_in e) (names_in_all es) h) (λ k. (o k).1))

      pub maybe_does : (e : MaybeExpr) → HasAll w.names (maybe_names e) → (m.strict ≡ true → MaybeKeyed e) → Does m w (Option PlainKeyRef) (Option Plain) (maybe_key w e) maybe_key_value (maybe_value (env m w.functions) e)
      maybe_does no_expr h o = does_known maybe_key_value None None (λ f. refl)
      maybe_does (some_expr e) h o = does_left maybe_key_value Some Some (λ f x. refl) (key_does e (code_does e h o))

      pub path_does : (ks : PlainPath) → HasAll w.names (path_names ks) → (m.strict ≡ true → PathKeyed ks) → Does m w Keys KeyValues (path_code w ks) read_keys (subscripts (env m w.functions) ks)
      path_does no_keys h o = does_known read_keys [] [] (λ f. refl)
      path_does (more_keys k ks) h o = does_both read_keys (λ x xs. x ∷ xs) (λ v vs. v ∷ vs) (λ f x xs. refl) (maybe_does k (all_front w.names (maybe_names k) (path_names ks) h) (λ k. (o k).0)) (path_does ks (all_back w.names (maybe_names k) (path_names ks) h) (λ k. (o k).1))

      pub items_does : (is : PlainItems) → HasAll w.names (item_names is) → (m.strict ≡ true → ItemsKeyed is) → {begun : Code Begun} {run : State → Run Made} → Does m w Begun Made begun read_begun run → Does m w Begun Made (items_code w is begun) read_begun (λ s. run s then_do items_made (env m w.functions) is)
      items_does no_items h o {run = run} d = does_same _ _ (λ s. made_nothing (env m w.functions) (run s)) d
      items_does (more_items k e is) h o {begun} {run} d =
          let rest = all_back w.names (maybe_names k) (names_in e ++ item_names is) h in
          does_same _ _ (λ s. item_first run (env m w.functions) k e is s)
          (items_does is (all_back w.names (names_in e) (item_names is) rest) (λ k. (o k).2)
          (does_one_item d (does_both read_item (λ key x. (key, x)) (λ key v. (key, v)) (λ f key x. refl) (maybe_does k (all_front w.names (maybe_names k) (names_in e ++ item_names is) h) (λ k. (o k).0)) (code_does e (all_front w.names (names_in e) (item_names is) rest) (λ k. (o k).1)))))
