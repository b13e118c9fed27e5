-- What each action makes of the values of trees.
use Rattle.std.proofs.Common.{◌≡◌, ◌∙◌, ℕ, ◌+◌, Bool, true, false, List, ◌∷◌, length, refl, ap, sym, None}
use Rattle.std.specs.Prelude.{◌&&◌, if◌then◌else◌}
use Rattle.std.specs.Str.{str_to_ascii_lowercase}
use Rattle.php_syntax.specs.declared.tree.UpdateSign.{UpdateSign}
use Rattle.php_syntax.specs.Trees.{PlainExpr, array_expr, join_expr, isset_expr, empty_expr, assign_expr, update_expr, step_expr, call_expr, PlainExprs, PlainItems, PlainPath}
use Rattle.script_grammar.specs.Expressions.{variable_tree}
use Rattle.script_grammar.specs.Rules.{expr_fits, is_known, is_writable, is_place, all_places, all_keyed, keyed_before_last}
use Rattle.php_syntax.specs.Height.{height, exprs_height, items_height, path_height}
use Rattle.expr_machine.specs.Actions.{Action, leaf_action, variable_action, join_action, read_action, assign_action, update_action, step_action, isset_action, empty_action, array_action, call_action}
use Rattle.expr_machine.specs.Values.{PlainValue, known_value, value_of_tree, is_place_value, empty_value, read_value, gather_exprs, join_value, isset_value, call_value, gather_items, array_value, gather_path, assign_value, update_value, put_if, apply_join, apply_isset, apply_call, apply_array, apply_read, apply_assign, apply_update, apply, with_those, execute}
use Rattle.expr_laws.proofs.Carry.{Goes, tested}
use Rattle.expr_laws.proofs.NodeValues.{row_is, target_is}
use Rattle.expr_laws.proofs.Nodes.{empty_is, place_value_is}
use Rattle.expr_laws.proofs.TreeRows.{pushed, taken, exprs_values, items_values, path_values, exprs_gathered, items_gathered, path_gathered, places_are, keyed_are, keyed_before_are}
use Rattle.expr_laws.proofs.Variables.{variable_fits, variable_height}

-- a leaf
pub leaf_value : (e : PlainExpr) → height e ≡ 1 → known_value e 1 ≡ value_of_tree e
leaf_value e h = rw h refl

-- where a rule holds the run goes on
put_then : (b : Bool) (v : PlainValue) (vs : List PlainValue) (acts : List Action) → with_those (put_if b v vs) (execute acts) ≡ (if b then execute acts (v ∷ vs) else None)
put_then true v vs acts = refl
put_then false v vs acts = refl

put_made : (a : Action) (acts : List Action) (vs : List PlainValue) (b : Bool) (v w : PlainValue) (ws : List PlainValue) → apply a vs ≡ put_if b v ws → v ≡ w
    → Goes (execute (a ∷ acts) vs) b (execute acts (w ∷ ws))
unfolding execute
put_made a acts vs b v w ws e f = record { is = ap (λ o. with_those o (execute acts)) e ∙ put_then b v ws acts ∙ ap (λ u. if b then execute acts (u ∷ ws) else None) f }

pub leaf_done : (e : PlainExpr) (acts : List Action) (vs : List PlainValue) → height e ≡ 1 → execute (leaf_action e ∷ acts) vs ≡ execute acts (value_of_tree e ∷ vs)
unfolding execute apply
leaf_done e acts vs h = ap (λ v. execute acts (v ∷ vs)) (leaf_value e h)

pub variable_made : (x : List ℕ) (acts : List Action) (vs : List PlainValue)
    → Goes (execute (variable_action x ∷ acts) vs) (expr_fits (variable_tree x)) (execute acts (value_of_tree (variable_tree x) ∷ vs))
unfolding apply
variable_made x acts vs = tested (sym (variable_fits x)) (put_made (variable_action x) acts vs (is_known x) (known_value (variable_tree x) 1) (value_of_tree (variable_tree x)) vs refl (leaf_value (variable_tree x) (variable_height x)))

pub step_made : (x : List ℕ) (up before : Bool) (acts : List Action) (vs : List PlainValue)
    → Goes (execute (step_action x up before ∷ acts) vs) (is_writable x) (execute acts (value_of_tree (step_expr x up before) ∷ vs))
unfolding apply height
step_made x up before acts vs = put_made (step_action x up before) acts vs (is_writable x) (known_value (step_expr x up before) 1) (value_of_tree (step_expr x up before)) vs refl (leaf_value (step_expr x up before) refl)

pub empty_made : (e : PlainExpr) (acts : List Action) (vs : List PlainValue)
    → Goes (execute (empty_action ∷ acts) (value_of_tree e ∷ vs)) (is_place e) (execute acts (value_of_tree (empty_expr e) ∷ vs))
unfolding apply
empty_made e acts vs = tested (place_value_is e) (put_made empty_action acts (value_of_tree e ∷ vs) (is_place_value (value_of_tree e)) (empty_value (value_of_tree e)) (value_of_tree (empty_expr e)) vs refl (empty_is e))

-- trees of a row of expressions

pub join_row : (es : PlainExprs) → join_value (gather_exprs (exprs_values es)) ≡ value_of_tree (join_expr es)
unfolding height
join_row es = ap join_value (exprs_gathered es) ∙ row_is join_value es (exprs_height es) (join_expr es) refl refl refl refl

isset_row : (es : PlainExprs) → isset_value (gather_exprs (exprs_values es)) ≡ value_of_tree (isset_expr es)
unfolding height
isset_row es = ap isset_value (exprs_gathered es) ∙ row_is isset_value es (exprs_height es) (isset_expr es) refl refl refl refl

call_row : (f : List ℕ) (es : PlainExprs) → call_value f (gather_exprs (exprs_values es)) ≡ value_of_tree (call_expr (str_to_ascii_lowercase f) es)
unfolding height
call_row f es = ap (call_value f) (exprs_gathered es) ∙ row_is (call_value f) es (exprs_height es) (call_expr (str_to_ascii_lowercase f) es) refl refl refl refl

array_row : (is : PlainItems) → array_value (gather_items (items_values is)) ≡ value_of_tree (array_expr is)
unfolding height
array_row is = ap array_value (items_gathered is) ∙ row_is array_value is (items_height is) (array_expr is) refl refl refl refl

-- a flat join of so many values, of trees or not
pub join_done : (row : List PlainValue) (n : ℕ) (acts : List Action) (vs : List PlainValue) → n ≡ length row
    → execute (join_action n ∷ acts) (pushed row vs) ≡ execute acts (join_value (gather_exprs row) ∷ vs)
unfolding execute apply
join_done row n acts vs e = ap (λ o. with_those (apply_join o) (execute acts)) (taken row n vs e)

pub call_done : (f : List ℕ) (es : PlainExprs) (n : ℕ) (acts : List Action) (vs : List PlainValue) → n ≡ length (exprs_values es)
    → execute (call_action f n ∷ acts) (pushed (exprs_values es) vs) ≡ execute acts (value_of_tree (call_expr (str_to_ascii_lowercase f) es) ∷ vs)
unfolding execute apply
call_done f es n acts vs e = ap (λ o. with_those (apply_call f o) (execute acts)) (taken (exprs_values es) n vs e) ∙ ap (λ v. execute acts (v ∷ vs)) (call_row f es)

pub array_done : (is : PlainItems) (n : ℕ) (acts : List Action) (vs : List PlainValue) → n + n ≡ length (items_values is)
    → execute (array_action n ∷ acts) (pushed (items_values is) vs) ≡ execute acts (value_of_tree (array_expr is) ∷ vs)
unfolding execute apply
array_done is n acts vs e = ap (λ o. with_those (apply_array o) (execute acts)) (taken (items_values is) (n + n) vs e) ∙ ap (λ v. execute acts (v ∷ vs)) (array_row is)

pub isset_made : (es : PlainExprs) (n : ℕ) (acts : List Action) (vs : List PlainValue) → n ≡ length (exprs_values es)
    → Goes (execute (isset_action n ∷ acts) (pushed (exprs_values es) vs)) (all_places es) (execute acts (value_of_tree (isset_expr es) ∷ vs))
unfolding apply
isset_made es n acts vs e = tested (places_are es) (put_made (isset_action n) acts (pushed (exprs_values es) vs) _ (isset_value (gather_exprs (exprs_values es))) (value_of_tree (isset_expr es)) vs (ap apply_isset (taken (exprs_values es) n vs e)) (isset_row es))

-- a member of a variable by a row of keys
pub read_made : (x : List ℕ) (row : List PlainValue) (n : ℕ) (e : PlainExpr) (acts : List Action) (vs : List PlainValue) → n ≡ length row
    → read_value (value_of_tree (variable_tree x)) row ≡ value_of_tree e
    → Goes (execute (read_action x n ∷ acts) (pushed row vs)) (expr_fits (variable_tree x)) (execute acts (value_of_tree e ∷ vs))
unfolding apply
read_made x row n e acts vs i j =
    tested (sym (variable_fits x)) (put_made (read_action x n) acts (pushed row vs) (is_known x) (read_value (known_value (variable_tree x) 1) row) (value_of_tree e) vs
    (ap (apply_read x) (taken row n vs i)) (ap (λ v. read_value v row) (leaf_value (variable_tree x) (variable_height x)) ∙ j))

-- assignments

assign_row : (x : List ℕ) (ks : PlainPath) (e : PlainExpr) → assign_value x (gather_path (path_values ks)) (value_of_tree e) ≡ value_of_tree (assign_expr x ks e)
unfolding height
assign_row x ks e = ap (λ o. assign_value x o (value_of_tree e)) (path_gathered ks) ∙ target_is (assign_value x) ks (path_height ks) e (assign_expr x ks e) (λ h. refl) (λ v. refl) refl refl refl

update_row : (u : UpdateSign) (x : List ℕ) (ks : PlainPath) (e : PlainExpr) → update_value u x (gather_path (path_values ks)) (value_of_tree e) ≡ value_of_tree (update_expr u x ks e)
unfolding height
update_row u x ks e = ap (λ o. update_value u x o (value_of_tree e)) (path_gathered ks) ∙ target_is (update_value u x) ks (path_height ks) e (update_expr u x ks e) (λ h. refl) (λ v. refl) refl refl refl

pub assign_made : (x : List ℕ) (ks : PlainPath) (e : PlainExpr) (n : ℕ) (acts : List Action) (vs : List PlainValue) → n ≡ length (path_values ks)
    → Goes (execute (assign_action x n ∷ acts) (value_of_tree e ∷ pushed (path_values ks) vs)) (is_writable x && keyed_before_last ks) (execute acts (value_of_tree (assign_expr x ks e) ∷ vs))
unfolding apply
assign_made x ks e n acts vs i =
    tested (ap (λ b. is_writable x && b) (keyed_before_are ks)) (put_made (assign_action x n) acts (value_of_tree e ∷ pushed (path_values ks) vs) _ (assign_value x (gather_path (path_values ks)) (value_of_tree e)) (value_of_tree (assign_expr x ks e)) vs
    (ap (apply_assign x (value_of_tree e)) (taken (path_values ks) n vs i)) (assign_row x ks e))

pub update_made : (u : UpdateSign) (x : List ℕ) (ks : PlainPath) (e : PlainExpr) (n : ℕ) (acts : List Action) (vs : List PlainValue) → n ≡ length (path_values ks)
    → Goes (execute (update_action u x n ∷ acts) (value_of_tree e ∷ pushed (path_values ks) vs)) (is_writable x && all_keyed ks) (execute acts (value_of_tree (update_expr u x ks e) ∷ vs))
unfolding apply
update_made u x ks e n acts vs i =
    tested (ap (λ b. is_writable x && b) (keyed_are ks)) (put_made (update_action u x n) acts (value_of_tree e ∷ pushed (path_values ks) vs) _ (update_value u x (gather_path (path_values ks)) (value_of_tree e)) (value_of_tree (update_expr u x ks e)) vs
    (ap (apply_update u x (value_of_tree e)) (taken (path_values ks) n vs i)) (update_row u x ks e))
