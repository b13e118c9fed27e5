-- The values that a reader makes. A value that is too high is not kept, but for whether it is a variable with subscripts.
use Rattle.std.specs.Prelude.{ℕ, ◌+◌, ◌&&◌, max, nat_lt, nat_le, Bool, true, false, not, List, [], ◌∷◌, Option, Some, None, if◌then◌else◌, zero, suc}
use Rattle.std.specs.Str.{str_to_ascii_lowercase}
use Rattle.text_base.specs.declared.limits.TheConstants.{HEIGHT_LIMIT}
use Rattle.script_grammar.specs.declared.operator.Operator.{Operator}
use Rattle.script_grammar.specs.declared.operator.Prefix.{Prefix}
use Rattle.php_syntax.specs.declared.tree.UpdateSign.{UpdateSign}
use Rattle.php_syntax.specs.Trees.{PlainExpr, array_expr, join_expr, member_expr, coalesce_expr, choice_expr, isset_expr, empty_expr, assign_expr, update_expr, step_expr, call_expr, no_expr, some_expr, PlainExprs, no_exprs, more_exprs, PlainItems, no_items, more_items, PlainPath, no_keys, more_keys}
use Rattle.script_grammar.specs.Expressions.{prefix_tree, operator_tree, variable_tree}
use Rattle.script_grammar.specs.Rules.{is_known, is_writable, is_place}
use Rattle.php_syntax.specs.Height.{height}
use Rattle.expr_machine.specs.Actions.{Action, leaf_action, variable_action, absent_action, unkeyed_action, prefix_action, binary_action, join_action, coalesce_action, short_choice_action, full_choice_action, member_action, read_action, assign_action, update_action, step_action, isset_action, empty_action, array_action, call_action}

-- a value that was made: a tree, or a key that is left out
pub data PlainValue : Type 0 where
  -- a tree and its height, where it is no higher than a tree may be
  known_value : PlainExpr → ℕ → PlainValue
  -- a tree that is higher, and whether it is a variable with subscripts
  tall_value : Bool → PlainValue
  -- a key that is left out
  absent_value : PlainValue

-- a tree whose parts are at most so high, with whether it is a variable with subscripts
abbrev pub node_value : PlainExpr → ℕ → Bool → PlainValue
node_value e h place = if nat_lt h HEIGHT_LIMIT then known_value e (h + 1) else tall_value place

-- the value of a tree
abbrev pub value_of_tree : PlainExpr → PlainValue
value_of_tree e = if nat_le (height e) HEIGHT_LIMIT then known_value e (height e) else tall_value (is_place e)

-- whether a value is a variable with subscripts
abbrev pub is_place_value : PlainValue → Bool
is_place_value (known_value e h) = is_place e
is_place_value (tall_value place) = place
is_place_value absent_value = false

-- whether it is a key that is left out
abbrev pub is_absent : PlainValue → Bool
is_absent absent_value = true
is_absent _ = false

-- trees of one, two and three values
abbrev pub prefix_value : Prefix → PlainValue → PlainValue
prefix_value p (known_value a h) = node_value (prefix_tree p a) h false
prefix_value p _ = tall_value false

-- an operator between two values
abbrev pub binary_value : Operator → PlainValue → PlainValue → PlainValue
binary_value o (known_value a h) (known_value b k) = node_value (operator_tree o a b) (max h k) false
binary_value o _ _ = tall_value false

-- `??` of two values
abbrev pub coalesce_value : PlainValue → PlainValue → PlainValue
coalesce_value (known_value a h) (known_value b k) = node_value (coalesce_expr a b) (max h k) false
coalesce_value _ _ = tall_value false

-- `?:` of two values
abbrev pub short_choice_value : PlainValue → PlainValue → PlainValue
short_choice_value (known_value a h) (known_value b k) = node_value (choice_expr a no_expr b) (max h k) false
short_choice_value _ _ = tall_value false

-- `? :` of three values
abbrev pub full_choice_value : PlainValue → PlainValue → PlainValue → PlainValue
full_choice_value (known_value a h) (known_value m j) (known_value b k) = node_value (choice_expr a (some_expr m) b) (max h (max j k)) false
full_choice_value _ _ _ = tall_value false

-- the member of a value under another as its key
abbrev pub member_value : PlainValue → PlainValue → PlainValue
member_value (known_value a h) (known_value b k) = node_value (member_expr a b) (max h k) (is_place a)
member_value a b = tall_value (is_place_value a)

-- `empty` of a value
abbrev pub empty_value : PlainValue → PlainValue
empty_value (known_value a h) = node_value (empty_expr a) h false
empty_value _ = tall_value false

-- the members of a value by keys, the first one of the value itself
abbrev pub read_value : PlainValue → List PlainValue → PlainValue
read_value a [] = a
read_value a (k ∷ ks) = read_value (member_value a k) ks

-- The trees of values in a row with the height of the highest, if all are kept: expressions, items of an array as pairs of a key and a
-- value,
-- and keys.
abbrev pub add_expr : PlainValue → Option (PlainExprs × ℕ) → Option (PlainExprs × ℕ)
add_expr (known_value e h) (Some rest) = Some (more_exprs e rest.0, max h rest.1)
add_expr _ _ = None

-- the expressions of values in a row, in the same order
abbrev pub gather_exprs : List PlainValue → Option (PlainExprs × ℕ)
gather_exprs [] = Some (no_exprs, 0)
gather_exprs (v ∷ vs) = add_expr v (gather_exprs vs)

-- an item of a key, which may be left out, and a value, before the others, where all are kept
abbrev pub add_item : PlainValue → PlainValue → Option (PlainItems × ℕ) → Option (PlainItems × ℕ)
add_item absent_value (known_value e h) (Some rest) = Some (more_items no_expr e rest.0, max h rest.1)
add_item (known_value k j) (known_value e h) (Some rest) = Some (more_items (some_expr k) e rest.0, max j (max h rest.1))
add_item _ _ _ = None

-- the items of values in a row, each a key and a value; none for a row of odd length
abbrev pub gather_items : List PlainValue → Option (PlainItems × ℕ)
gather_items [] = Some (no_items, 0)
gather_items (k ∷ []) = None
gather_items (k ∷ v ∷ vs) = add_item k v (gather_items vs)

-- a key, which may be left out, before the others, where all are kept
abbrev pub add_key : PlainValue → Option (PlainPath × ℕ) → Option (PlainPath × ℕ)
add_key absent_value (Some rest) = Some (more_keys no_expr rest.0, rest.1)
add_key (known_value k h) (Some rest) = Some (more_keys (some_expr k) rest.0, max h rest.1)
add_key _ _ = None

-- the keys of values in a row, in the same order
abbrev pub gather_path : List PlainValue → Option (PlainPath × ℕ)
gather_path [] = Some (no_keys, 0)
gather_path (k ∷ ks) = add_key k (gather_path ks)

-- trees of such rows
abbrev pub join_value : Option (PlainExprs × ℕ) → PlainValue
join_value None = tall_value false
join_value (Some row) = node_value (join_expr row.0) row.1 false

-- `isset` of a row of operands
abbrev pub isset_value : Option (PlainExprs × ℕ) → PlainValue
isset_value None = tall_value false
isset_value (Some row) = node_value (isset_expr row.0) row.1 false

-- a call of the function of this name, which is kept in lower case, with a row of arguments
abbrev pub call_value : List ℕ → Option (PlainExprs × ℕ) → PlainValue
call_value f None = tall_value false
call_value f (Some row) = node_value (call_expr (str_to_ascii_lowercase f) row.0) row.1 false

-- an array literal of a row of items
abbrev pub array_value : Option (PlainItems × ℕ) → PlainValue
array_value None = tall_value false
array_value (Some row) = node_value (array_expr row.0) row.1 false

-- an assignment to a variable at a path, whose target is one node higher than its highest key
abbrev pub assign_value : List ℕ → Option (PlainPath × ℕ) → PlainValue → PlainValue
assign_value x (Some path) (known_value e h) = node_value (assign_expr x path.0 e) (max (1 + path.1) h) false
assign_value x _ _ = tall_value false

-- the same with an operator
abbrev pub update_value : UpdateSign → List ℕ → Option (PlainPath × ℕ) → PlainValue → PlainValue
update_value u x (Some path) (known_value e h) = node_value (update_expr u x path.0 e) (max (1 + path.1) h) false
update_value u x _ _ = tall_value false

-- whether no key is left out, and whether none but the last is
abbrev pub none_absent : List PlainValue → Bool
none_absent [] = true
none_absent (k ∷ ks) = not (is_absent k) && none_absent ks

-- whether no key but the last is left out
abbrev pub none_absent_before_last : List PlainValue → Bool
none_absent_before_last [] = true
none_absent_before_last (k ∷ []) = true
none_absent_before_last (k ∷ l ∷ ks) = not (is_absent k) && none_absent_before_last (l ∷ ks)

-- whether each value is a variable with subscripts
abbrev pub all_place_values : List PlainValue → Bool
all_place_values [] = true
all_place_values (v ∷ vs) = is_place_value v && all_place_values vs

-- so many values off the stack, whose last one stands first, in the order in which they were made; and the others
abbrev pub take_values : ℕ → List PlainValue → List PlainValue → Option (List PlainValue × List PlainValue)
take_values zero row vs = Some (row, vs)
take_values (suc n) row [] = None
take_values (suc n) row (v ∷ vs) = take_values n (v ∷ row) vs

-- a value on the others, where a rule holds
abbrev pub put_if : Bool → PlainValue → List PlainValue → Option (List PlainValue)
put_if true v vs = Some (v ∷ vs)
put_if false v vs = None

-- what an action does with a row of values and those below it
abbrev pub apply_join : Option (List PlainValue × List PlainValue) → Option (List PlainValue)
apply_join None = None
apply_join (Some split) = Some (join_value (gather_exprs split.0) ∷ split.1)

-- `isset` of the row, where each operand is a variable with subscripts
abbrev pub apply_isset : Option (List PlainValue × List PlainValue) → Option (List PlainValue)
apply_isset None = None
apply_isset (Some split) = put_if (all_place_values split.0) (isset_value (gather_exprs split.0)) split.1

-- a call with the row as its arguments
abbrev pub apply_call : List ℕ → Option (List PlainValue × List PlainValue) → Option (List PlainValue)
apply_call f None = None
apply_call f (Some split) = Some (call_value f (gather_exprs split.0) ∷ split.1)

-- an array literal of the row, keys and values by turns
abbrev pub apply_array : Option (List PlainValue × List PlainValue) → Option (List PlainValue)
apply_array None = None
apply_array (Some split) = Some (array_value (gather_items split.0) ∷ split.1)

-- a member of the variable by the row as its keys, where the language has the variable
abbrev pub apply_read : List ℕ → Option (List PlainValue × List PlainValue) → Option (List PlainValue)
apply_read x None = None
apply_read x (Some split) = put_if (is_known x) (read_value (known_value (variable_tree x) 1) split.0) split.1

-- an assignment of the value at the row of keys, where the variable may be written and no key but the last is left out
abbrev pub apply_assign : List ℕ → PlainValue → Option (List PlainValue × List PlainValue) → Option (List PlainValue)
apply_assign x v None = None
apply_assign x v (Some split) = put_if (is_writable x && none_absent_before_last split.0) (assign_value x (gather_path split.0) v) split.1

-- the same with an operator, where no key is left out
abbrev pub apply_update : UpdateSign → List ℕ → PlainValue → Option (List PlainValue × List PlainValue) → Option (List PlainValue)
apply_update u x v None = None
apply_update u x v (Some split) = put_if (is_writable x && none_absent split.0) (update_value u x (gather_path split.0) v) split.1

-- what an action makes of the values, the last one first; nothing where it breaks a rule of the language
unfoldable pub apply : Action → List PlainValue → Option (List PlainValue)
apply (leaf_action e) vs = Some (known_value e 1 ∷ vs)
apply (variable_action x) vs = put_if (is_known x) (known_value (variable_tree x) 1) vs
apply absent_action vs = Some (absent_value ∷ vs)
apply unkeyed_action (v ∷ vs) = Some (v ∷ absent_value ∷ vs)
apply (prefix_action p) (v ∷ vs) = Some (prefix_value p v ∷ vs)
apply (binary_action o) (b ∷ a ∷ vs) = Some (binary_value o a b ∷ vs)
apply (join_action n) vs = apply_join (take_values n [] vs)
apply coalesce_action (b ∷ a ∷ vs) = Some (coalesce_value a b ∷ vs)
apply short_choice_action (b ∷ a ∷ vs) = Some (short_choice_value a b ∷ vs)
apply full_choice_action (b ∷ m ∷ a ∷ vs) = Some (full_choice_value a m b ∷ vs)
apply member_action (b ∷ a ∷ vs) = Some (member_value a b ∷ vs)
apply (read_action x n) vs = apply_read x (take_values n [] vs)
apply (assign_action x n) (v ∷ vs) = apply_assign x v (take_values n [] vs)
apply (update_action u x n) (v ∷ vs) = apply_update u x v (take_values n [] vs)
apply (step_action x up before) vs = put_if (is_writable x) (known_value (step_expr x up before) 1) vs
apply (isset_action n) vs = apply_isset (take_values n [] vs)
apply empty_action (v ∷ vs) = put_if (is_place_value v) (empty_value v) vs
apply (array_action n) vs = apply_array (take_values (n + n) [] vs)
apply (call_action f n) vs = apply_call f (take_values n [] vs)
apply _ _ = None

-- what follows where there are values
abbrev pub with_those : Option (List PlainValue) → (List PlainValue → Option (List PlainValue)) → Option (List PlainValue)
with_those None next = None
with_those (Some vs) next = next vs

-- the actions in turn
unfoldable pub execute : List Action → List PlainValue → Option (List PlainValue)
execute [] vs = Some vs
execute (a ∷ acts) vs = with_those (apply a vs) (execute acts)
