-- Rows of values on the stack: what an action takes off, and the trees that it gathers.
use Rattle.std.proofs.Common.{◌≡◌, ◌∙◌, ℕ, suc, ◌+◌, Bool, true, false, List, [], ◌∷◌, ◌++◌, length, refl, ap, arith, Some, None}
use Rattle.std.specs.Prelude.{not, ◌&&◌, if◌then◌else◌, nat_le, max}
use Rattle.php_syntax.specs.Trees.{PlainExpr, MaybeExpr, no_expr, some_expr, PlainExprs, no_exprs, more_exprs, PlainItems, no_items, more_items, PlainPath, no_keys, more_keys}
use Rattle.script_grammar.specs.Rules.{is_place, all_places, all_keyed, keyed_before_last}
use Rattle.php_syntax.specs.Height.{height, exprs_height, items_height, path_height}
use Rattle.expr_machine.specs.Values.{PlainValue, known_value, tall_value, absent_value, value_of_tree, add_expr, gather_exprs, add_item, gather_items, add_key, gather_path, none_absent, none_absent_before_last, all_place_values, take_values}
use Rattle.expr_laws.proofs.NodeValues.{high_left, high_right, both_low}
use Rattle.expr_laws.proofs.Nodes.{place_value_is, tree_is_not_absent}

-- the values in a row put on a stack, the first one first
abbrev pub pushed : List PlainValue → List PlainValue → List PlainValue
pushed [] vs = vs
pushed (v ∷ row) vs = pushed row (v ∷ vs)

abbrev pub exprs_values : PlainExprs → List PlainValue
exprs_values no_exprs = []
exprs_values (more_exprs e es) = value_of_tree e ∷ exprs_values es

abbrev pub maybe_value : MaybeExpr → PlainValue
maybe_value no_expr = absent_value
maybe_value (some_expr e) = value_of_tree e

abbrev pub items_values : PlainItems → List PlainValue
items_values no_items = []
items_values (more_items k e is) = maybe_value k ∷ value_of_tree e ∷ items_values is

abbrev pub path_values : PlainPath → List PlainValue
path_values no_keys = []
path_values (more_keys k ks) = maybe_value k ∷ path_values ks

take_more : (row : List PlainValue) (n m : ℕ) (last vs : List PlainValue) → m ≡ length row + n → take_values m last (pushed row vs) ≡ take_values n (row ++ last) vs
take_more [] n m last vs e = ap (λ k. take_values k last vs) (omega arith)
take_more (v ∷ row) n m last vs e = take_more row (suc n) m last (v ∷ vs) (omega arith)

pub append_none : (row : List PlainValue) → row ++ [] ≡ row
append_none [] = refl
append_none (v ∷ row) = ap (λ r. v ∷ r) (append_none row)

-- a row is taken off as it was put on
pub taken : (row : List PlainValue) (n : ℕ) (vs : List PlainValue) → n ≡ length row → take_values n [] (pushed row vs) ≡ Some (row, vs)
taken row n vs e = take_more row 0 n [] vs (omega arith) ∙ ap (λ r. Some (r, vs)) (append_none row)

-- one more value behind a row
pub pushed_last : (row : List PlainValue) (v : PlainValue) (vs : List PlainValue) → v ∷ pushed row vs ≡ pushed (row ++ (v ∷ [])) vs
pushed_last [] v vs = refl
pushed_last (w ∷ row) v vs = pushed_last row v (w ∷ vs)

pub append_last : (row last : List PlainValue) (v : PlainValue) → (row ++ (v ∷ [])) ++ last ≡ row ++ (v ∷ last)
append_last [] last v = refl
append_last (w ∷ row) last v = ap (λ r. w ∷ r) (append_last row last v)

expr_added : (e : PlainExpr) (es : PlainExprs) (h t : ℕ) (p q r : Bool) → nat_le h 200 ≡ q → nat_le t 200 ≡ r
    → add_expr (if q then known_value e h else tall_value p) (if r then Some (es, t) else None) ≡ (if nat_le (max h t) 200 then Some (more_exprs e es, max h t) else None)
expr_added e es h t p true true k l = rw (both_low h t 200 k l) refl
expr_added e es h t p true false k l = rw (high_right h t 200 l) refl
expr_added e es h t p false r k l = rw (high_left h t 200 k) refl

pub exprs_gathered : (es : PlainExprs) → gather_exprs (exprs_values es) ≡ (if nat_le (exprs_height es) 200 then Some (es, exprs_height es) else None)
unfolding height
exprs_gathered no_exprs = refl
exprs_gathered (more_exprs e es) = ap (add_expr (value_of_tree e)) (exprs_gathered es) ∙ expr_added e es (height e) (exprs_height es) (is_place e) (nat_le (height e) 200) (nat_le (exprs_height es) 200) refl refl

unkeyed_added : (e : PlainExpr) (is : PlainItems) (h t m : ℕ) (p q r : Bool) → m ≡ max h t → nat_le h 200 ≡ q → nat_le t 200 ≡ r
    → add_item absent_value (if q then known_value e h else tall_value p) (if r then Some (is, t) else None) ≡ (if nat_le m 200 then Some (more_items no_expr e is, m) else None)
unkeyed_added e is h t m p true true i k l = rw i (rw (both_low h t 200 k l) refl)
unkeyed_added e is h t m p true false i k l = rw i (rw (high_right h t 200 l) refl)
unkeyed_added e is h t m p false r i k l = rw i (rw (high_left h t 200 k) refl)

keyed_added : (x e : PlainExpr) (is : PlainItems) (j h t : ℕ) (o p s q r : Bool) → nat_le j 200 ≡ s → nat_le h 200 ≡ q → nat_le t 200 ≡ r
    → add_item (if s then known_value x j else tall_value o) (if q then known_value e h else tall_value p) (if r then Some (is, t) else None) ≡ (if nat_le (max j (max h t)) 200 then Some (more_items (some_expr x) e is, max j (max h t)) else None)
keyed_added x e is j h t o p true true true i k l = rw (both_low j (max h t) 200 i (both_low h t 200 k l)) refl
keyed_added x e is j h t o p true true false i k l = rw (high_right j (max h t) 200 (high_right h t 200 l)) refl
keyed_added x e is j h t o p true false r i k l = rw (high_right j (max h t) 200 (high_left h t 200 k)) refl
keyed_added x e is j h t o p false q r i k l = rw (high_left j (max h t) 200 i) refl

pub items_gathered : (is : PlainItems) → gather_items (items_values is) ≡ (if nat_le (items_height is) 200 then Some (is, items_height is) else None)
unfolding height
items_gathered no_items = refl
items_gathered (more_items no_expr e is) = ap (add_item absent_value (value_of_tree e)) (items_gathered is) ∙ unkeyed_added e is (height e) (items_height is) (max 0 (max (height e) (items_height is))) (is_place e) (nat_le (height e) 200) (nat_le (items_height is) 200) (omega arith) refl refl
items_gathered (more_items (some_expr x) e is) = ap (add_item (value_of_tree x) (value_of_tree e)) (items_gathered is) ∙ keyed_added x e is (height x) (height e) (items_height is) (is_place x) (is_place e) (nat_le (height x) 200) (nat_le (height e) 200) (nat_le (items_height is) 200) refl refl refl

absent_added : (ks : PlainPath) (t m : ℕ) (r : Bool) → m ≡ t → nat_le t 200 ≡ r → add_key absent_value (if r then Some (ks, t) else None) ≡ (if nat_le m 200 then Some (more_keys no_expr ks, m) else None)
absent_added ks t m true i k = rw i (rw k refl)
absent_added ks t m false i k = rw i (rw k refl)

key_added : (e : PlainExpr) (ks : PlainPath) (h t : ℕ) (p q r : Bool) → nat_le h 200 ≡ q → nat_le t 200 ≡ r
    → add_key (if q then known_value e h else tall_value p) (if r then Some (ks, t) else None) ≡ (if nat_le (max h t) 200 then Some (more_keys (some_expr e) ks, max h t) else None)
key_added e ks h t p true true k l = rw (both_low h t 200 k l) refl
key_added e ks h t p true false k l = rw (high_right h t 200 l) refl
key_added e ks h t p false r k l = rw (high_left h t 200 k) refl

pub path_gathered : (ks : PlainPath) → gather_path (path_values ks) ≡ (if nat_le (path_height ks) 200 then Some (ks, path_height ks) else None)
unfolding height
path_gathered no_keys = refl
path_gathered (more_keys no_expr ks) = ap (add_key absent_value) (path_gathered ks) ∙ absent_added ks (path_height ks) (max 0 (path_height ks)) (nat_le (path_height ks) 200) (omega arith) refl
path_gathered (more_keys (some_expr e) ks) = ap (add_key (value_of_tree e)) (path_gathered ks) ∙ key_added e ks (height e) (path_height ks) (is_place e) (nat_le (height e) 200) (nat_le (path_height ks) 200) refl refl

-- what of a row's trees is read from their values

pub places_are : (es : PlainExprs) → all_place_values (exprs_values es) ≡ all_places es
places_are no_exprs = refl
places_are (more_exprs e es) = ap (λ b. b && all_place_values (exprs_values es)) (place_value_is e) ∙ ap (λ b. is_place e && b) (places_are es)

pub keyed_are : (ks : PlainPath) → none_absent (path_values ks) ≡ all_keyed ks
keyed_are no_keys = refl
keyed_are (more_keys no_expr ks) = refl
keyed_are (more_keys (some_expr e) ks) = ap (λ b. not b && none_absent (path_values ks)) (tree_is_not_absent e) ∙ keyed_are ks

pub keyed_before_are : (ks : PlainPath) → none_absent_before_last (path_values ks) ≡ keyed_before_last ks
keyed_before_are no_keys = refl
keyed_before_are (more_keys no_expr no_keys) = refl
keyed_before_are (more_keys (some_expr e) no_keys) = refl
keyed_before_are (more_keys no_expr (more_keys l ks)) = refl
keyed_before_are (more_keys (some_expr e) (more_keys l ks)) = ap (λ b. not b && none_absent_before_last (path_values (more_keys l ks))) (tree_is_not_absent e) ∙ keyed_before_are (more_keys l ks)
