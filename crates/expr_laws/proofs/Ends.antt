-- What ends a form: its last action, after the values of its parts.
use Rattle.std.proofs.Common.{◌≡◌, ◌∙◌, ℕ, ◌+◌, Bool, true, false, List, [], ◌∷◌, ◌++◌, length, refl, ap, sym, arith, length-append, Some, None}
use Rattle.std.specs.Prelude.{Option, ◌&&◌}
use Rattle.script_grammar.specs.declared.keyword.Keyword.{Keyword}
use Rattle.script_grammar.specs.declared.keyword.Keyword.TheVariants as word
use Rattle.php_syntax.specs.declared.tree.UpdateSign.{UpdateSign}
use Rattle.php_syntax.specs.Trees.{PlainExpr, member_expr, isset_expr, empty_expr, assign_expr, update_expr, PlainExprs, more_exprs}
use Rattle.script_grammar.specs.Expressions.{KeysForm, no_key_form, open_key_form, key_form, SubscriptsForm, no_subscript, subscript_form, MoreExprsForm, no_more_exprs, one_more_expr, MoreItemsForm, end_of_items, last_comma, one_more_item, value_item, keyed_item, constant_of, variable_tree, expr_tree, keys_tree, subscripts_tree, more_exprs_tree, more_items_tree}
use Rattle.script_grammar.specs.Rules.{expr_fits, exprs_fit, path_fits, is_writable, is_place, all_places, keyed_before_last, all_keyed}
use Rattle.php_syntax.specs.Height.{height}
use Rattle.expr_machine.specs.Actions.{Action, leaf_action, read_action, join_action, isset_action, empty_action, assign_action, update_action}
use Rattle.expr_machine.specs.Postfix.{keys_count, subscripts_count, exprs_count, items_count}
use Rattle.expr_machine.specs.Values.{PlainValue, value_of_tree, read_value, gather_exprs, join_value, execute}
use Rattle.expr_laws.proofs.Carry.{Left, Goes, both, always, ends, tested}
use Rattle.expr_laws.proofs.Nodes.{member_is}
use Rattle.expr_laws.proofs.TreeRows.{pushed, pushed_last, append_last, append_none, exprs_values, items_values, path_values}
use Rattle.expr_laws.proofs.Steps.{leaf_done, read_made, join_done, isset_made, empty_made, assign_made, update_made}
use Rattle.expr_laws.proofs.Joined.{and_true, and_assoc, and_swap}

-- a constant is a leaf that keeps the rules

abbrev leaf_height : Option PlainExpr → ℕ
leaf_height None = 1
leaf_height (Some e) = height e

abbrev leaf_fits : Option PlainExpr → Bool
leaf_fits None = true
leaf_fits (Some e) = expr_fits e

constant_height : (k : Keyword) → leaf_height (constant_of k) ≡ 1
unfolding height
constant_height word.True = refl
constant_height word.False = refl
constant_height word.Null = refl
constant_height word.PhpEol = refl
constant_height word.PhpIntMax = refl
constant_height word.PhpIntMin = refl
constant_height _ = refl

constant_fits : (k : Keyword) → leaf_fits (constant_of k) ≡ true
unfolding expr_fits
constant_fits word.True = refl
constant_fits word.False = refl
constant_fits word.Null = refl
constant_fits word.PhpEol = refl
constant_fits word.PhpIntMax = refl
constant_fits word.PhpIntMin = refl
constant_fits _ = refl

pub constant_made : (k : Keyword) (e : PlainExpr) (acts : List Action) (vs : List PlainValue) → constant_of k ≡ Some e
    → Goes (execute (leaf_action e ∷ acts) vs) (expr_fits e) (execute acts (value_of_tree e ∷ vs))
constant_made k e acts vs is =
    tested (sym (constant_fits k) ∙ ap leaf_fits is) (always (leaf_done e acts vs (sym (ap leaf_height is) ∙ constant_height k)))

-- how many values a row has

keys_length : (ks : KeysForm) → keys_count ks ≡ length (path_values (keys_tree ks))
unfolding expr_tree
keys_length no_key_form = refl
keys_length (open_key_form ks) = omega (arith, keys_length ks)
keys_length (key_form e ks) = omega (arith, keys_length ks)

pub exprs_length : (e : PlainExpr) (es : MoreExprsForm) → exprs_count es + 1 ≡ length (exprs_values (more_exprs e (more_exprs_tree es)))
unfolding expr_tree
exprs_length e no_more_exprs = refl
exprs_length e (one_more_expr f es) = omega (arith, exprs_length (expr_tree f) es)

items_double : (is : MoreItemsForm) → items_count is + items_count is ≡ length (items_values (more_items_tree is))
unfolding expr_tree
items_double end_of_items = refl
items_double last_comma = refl
items_double (one_more_item (value_item e) is) = omega (arith, items_double is)
items_double (one_more_item (keyed_item k e) is) = omega (arith, items_double is)

pub items_length : (is : MoreItemsForm) (v w : PlainValue) → (items_count is + 1) + (items_count is + 1) ≡ length (v ∷ w ∷ items_values (more_items_tree is))
items_length is v w = omega (arith, items_double is)

-- assignments

assign_order : (p e w k : Bool) → (p && (e && (w && k))) ≡ (w && (k && (p && e)))
assign_order true true true true = refl
assign_order true true true false = refl
assign_order true true false k = refl
assign_order true false true true = refl
assign_order true false true false = refl
assign_order true false false k = refl
assign_order false e true true = refl
assign_order false e true false = refl
assign_order false e false k = refl

pub assign_ends : (x : List ℕ) (ks : KeysForm) (e : PlainExpr) (start middle : Left) (acts : List Action) (vs : List PlainValue)
    → Goes start (path_fits (keys_tree ks)) middle
    → Goes middle (expr_fits e) (execute (assign_action x (keys_count ks) ∷ acts) (value_of_tree e ∷ pushed (path_values (keys_tree ks)) vs))
    → Goes start (expr_fits (assign_expr x (keys_tree ks) e)) (execute acts (value_of_tree (assign_expr x (keys_tree ks) e) ∷ vs))
unfolding expr_fits
assign_ends x ks e start middle acts vs keys value =
    tested (assign_order (path_fits (keys_tree ks)) (expr_fits e) (is_writable x) (keyed_before_last (keys_tree ks)))
    (both keys (both value (assign_made x (keys_tree ks) e (keys_count ks) acts vs (keys_length ks))))

pub update_ends : (u : UpdateSign) (x : List ℕ) (ks : KeysForm) (e : PlainExpr) (start middle : Left) (acts : List Action) (vs : List PlainValue)
    → Goes start (path_fits (keys_tree ks)) middle
    → Goes middle (expr_fits e) (execute (update_action u x (keys_count ks) ∷ acts) (value_of_tree e ∷ pushed (path_values (keys_tree ks)) vs))
    → Goes start (expr_fits (update_expr u x (keys_tree ks) e)) (execute acts (value_of_tree (update_expr u x (keys_tree ks) e) ∷ vs))
unfolding expr_fits
update_ends u x ks e start middle acts vs keys value =
    tested (assign_order (path_fits (keys_tree ks)) (expr_fits e) (is_writable x) (all_keyed (keys_tree ks)))
    (both keys (both value (update_made u x (keys_tree ks) e (keys_count ks) acts vs (keys_length ks))))

-- a variable and its keys

abbrev pub subscript_values : SubscriptsForm → List PlainValue
subscript_values no_subscript = []
subscript_values (subscript_form e ks) = value_of_tree (expr_tree e) ∷ subscript_values ks

abbrev pub subscripts_fit : SubscriptsForm → Bool
subscripts_fit no_subscript = true
subscripts_fit (subscript_form e ks) = expr_fits (expr_tree e) && subscripts_fit ks

subscripts_length : (ks : SubscriptsForm) → subscripts_count ks ≡ length (subscript_values ks)
subscripts_length no_subscript = refl
subscripts_length (subscript_form e ks) = omega (arith, subscripts_length ks)

subscripts_read : (ks : SubscriptsForm) (a : PlainExpr) → read_value (value_of_tree a) (subscript_values ks) ≡ value_of_tree (subscripts_tree ks a)
unfolding expr_tree
subscripts_read no_subscript a = refl
subscripts_read (subscript_form e ks) a = ap (λ v. read_value v (subscript_values ks)) (member_is a (expr_tree e)) ∙ subscripts_read ks (member_expr a (expr_tree e))

subscripts_rules : (ks : SubscriptsForm) (a : PlainExpr) → (expr_fits a && subscripts_fit ks) ≡ expr_fits (subscripts_tree ks a)
unfolding expr_tree expr_fits
subscripts_rules no_subscript a = and_true (expr_fits a)
subscripts_rules (subscript_form e ks) a = sym (and_assoc (expr_fits a) (expr_fits (expr_tree e)) (subscripts_fit ks)) ∙ subscripts_rules ks (member_expr a (expr_tree e))

pub read_ends : (x : List ℕ) (ks : SubscriptsForm) (start : Left) (acts : List Action) (vs : List PlainValue)
    → Goes start (subscripts_fit ks) (execute (read_action x (subscripts_count ks) ∷ acts) (pushed (subscript_values ks) vs))
    → Goes start (expr_fits (subscripts_tree ks (variable_tree x))) (execute acts (value_of_tree (subscripts_tree ks (variable_tree x)) ∷ vs))
read_ends x ks start acts vs keys =
    tested (and_swap (subscripts_fit ks) (expr_fits (variable_tree x)) ∙ subscripts_rules ks (variable_tree x))
    (both keys (read_made x (subscript_values ks) (subscripts_count ks) (subscripts_tree ks (variable_tree x)) acts vs (subscripts_length ks) (subscripts_read ks (variable_tree x))))

-- `isset` and `empty`

pub isset_ends : (es : PlainExprs) (n : ℕ) (start : Left) (acts : List Action) (vs : List PlainValue) → n ≡ length (exprs_values es)
    → Goes start (exprs_fit es) (execute (isset_action n ∷ acts) (pushed (exprs_values es) vs))
    → Goes start (expr_fits (isset_expr es)) (execute acts (value_of_tree (isset_expr es) ∷ vs))
unfolding expr_fits
isset_ends es n start acts vs i parts = tested (and_swap (exprs_fit es) (all_places es)) (both parts (isset_made es n acts vs i))

pub empty_ends : (e : PlainExpr) (start : Left) (acts : List Action) (vs : List PlainValue)
    → Goes start (expr_fits e) (execute (empty_action ∷ acts) (value_of_tree e ∷ vs))
    → Goes start (expr_fits (empty_expr e)) (execute acts (value_of_tree (empty_expr e) ∷ vs))
unfolding expr_fits
empty_ends e start acts vs part = tested (and_swap (expr_fits e) (is_place e)) (both part (empty_made e acts vs))

-- a flat join: its end, and one more operand behind those before

pub counted_ends : (row : List PlainValue) (n : ℕ) (acts : List Action) (vs : List PlainValue) → n ≡ length row
    → execute (join_action n ∷ acts) (pushed row vs) ≡ execute acts (join_value (gather_exprs (row ++ [])) ∷ vs)
counted_ends row n acts vs i = join_done row n acts vs i ∙ ap (λ r. execute acts (join_value (gather_exprs r) ∷ vs)) (sym (append_none row))

pub longer : (row : List PlainValue) (v : PlainValue) (n : ℕ) → n ≡ length row → n + 1 ≡ length (row ++ (v ∷ []))
longer row v n i = simp length-append (omega arith)

pub last_counted : (row : List PlainValue) (v : PlainValue) (n : ℕ) (acts : List Action) (vs : List PlainValue) → n ≡ length row
    → execute (join_action (n + 1) ∷ acts) (v ∷ pushed row vs) ≡ execute acts (join_value (gather_exprs (row ++ (v ∷ []))) ∷ vs)
last_counted row v n acts vs i =
    ap (execute (join_action (n + 1) ∷ acts)) (pushed_last row v vs) ∙ join_done (row ++ (v ∷ [])) (n + 1) acts vs (longer row v n i)

pub more_counted : (row rest : List PlainValue) (v : PlainValue) (b : Bool) (next acts : List Action) (vs : List PlainValue)
    → Goes (execute next (pushed (row ++ (v ∷ [])) vs)) b (execute acts (join_value (gather_exprs ((row ++ (v ∷ [])) ++ rest)) ∷ vs))
    → Goes (execute next (v ∷ pushed row vs)) b (execute acts (join_value (gather_exprs (row ++ (v ∷ rest))) ∷ vs))
more_counted row rest v b next acts vs m = rw (pushed_last row v vs) (ends m (ap (λ r. execute acts (join_value (gather_exprs r) ∷ vs)) (append_last row rest v)))
