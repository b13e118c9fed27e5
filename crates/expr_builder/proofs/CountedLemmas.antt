-- What an action makes of a row of values that were taken off.
use Rattle.std.proofs.Common.{◌≡◌, ℕ, ◌+◌, Bool, true, false, not, List, [], ◌∷◌, refl, ap, sym, ◌∙◌}
use Rattle.std.specs.Prelude.{Option, Some, None, ◌&&◌}
use Rattle.php_syntax.specs.declared.tree.UpdateSign.{UpdateSign}
use Rattle.php_syntax.specs.Trees.{PlainExprs, PlainItems, PlainPath}
use Rattle.script_grammar.specs.Expressions.{variable_tree}
use Rattle.script_grammar.specs.Rules.{is_known, is_writable}
use Rattle.expr_machine.specs.Actions.{join_action, isset_action, call_action, array_action, read_action}
use Rattle.expr_machine.specs.Values.{PlainValue, known_value, apply, apply_join, apply_isset, apply_call, apply_array, apply_read, apply_assign, apply_update, put_if, take_values, gather_exprs, gather_path, join_value, isset_value, call_value, array_value, read_value, assign_value, update_value}
use Rattle.expr_builder.specs.Rows.{IsRow, IsItems, IsPath}

abbrev pub Taken : Type 0
Taken = Option (List PlainValue × List PlainValue)

-- the actions by what they take off

pub join_by : (n : ℕ) (vs : List PlainValue) → apply (join_action n) vs ≡ apply_join (take_values n [] vs)
unfolding apply
join_by n vs = refl

pub isset_by : (n : ℕ) (vs : List PlainValue) → apply (isset_action n) vs ≡ apply_isset (take_values n [] vs)
unfolding apply
isset_by n vs = refl

pub call_by : (f : List ℕ) (n : ℕ) (vs : List PlainValue) → apply (call_action f n) vs ≡ apply_call f (take_values n [] vs)
unfolding apply
call_by f n vs = refl

pub array_by : (n : ℕ) (vs : List PlainValue) → apply (array_action n) vs ≡ apply_array (take_values (n + n) [] vs)
unfolding apply
array_by n vs = refl

pub read_by : (x : List ℕ) (n : ℕ) (vs : List PlainValue) → apply (read_action x n) vs ≡ apply_read x (take_values n [] vs)
unfolding apply
read_by x n vs = refl

-- what they make of the row

pub joined : (taken : Taken) (exprs : Option (PlainExprs × ℕ)) (places : Bool) (left : List PlainValue) (v : PlainValue) → IsRow taken exprs places left → v ≡ join_value exprs → apply_join taken ≡ Some (v ∷ left)
joined taken exprs places left v h e = ap apply_join h.is_taken ∙ ap (λ x. Some (join_value x ∷ left)) h.are ∙ ap (λ x. Some (x ∷ left)) (sym e)

isset_row : (taken : Taken) (exprs : Option (PlainExprs × ℕ)) (places : Bool) (left : List PlainValue) → IsRow taken exprs places left → apply_isset taken ≡ put_if places (isset_value exprs) left
isset_row taken exprs places left h = ap apply_isset h.is_taken ∙ ap (λ x. put_if x (isset_value (gather_exprs h.row)) left) h.are_places ∙ ap (λ x. put_if places (isset_value x) left) h.are

pub isset_made : (taken : Taken) (exprs : Option (PlainExprs × ℕ)) (places : Bool) (left : List PlainValue) (v : PlainValue) → IsRow taken exprs places left → places ≡ true → v ≡ isset_value exprs → apply_isset taken ≡ Some (v ∷ left)
isset_made taken exprs places left v h p e = isset_row taken exprs places left h ∙ ap (λ x. put_if x (isset_value exprs) left) p ∙ ap (λ x. Some (x ∷ left)) (sym e)

pub isset_refused : (taken : Taken) (exprs : Option (PlainExprs × ℕ)) (places : Bool) (left : List PlainValue) → IsRow taken exprs places left → places ≡ false → apply_isset taken ≡ None
isset_refused taken exprs places left h p = isset_row taken exprs places left h ∙ ap (λ x. put_if x (isset_value exprs) left) p

pub called : (f : List ℕ) (taken : Taken) (exprs : Option (PlainExprs × ℕ)) (places : Bool) (left : List PlainValue) (v : PlainValue) → IsRow taken exprs places left → v ≡ call_value f exprs → apply_call f taken ≡ Some (v ∷ left)
called f taken exprs places left v h e = ap (apply_call f) h.is_taken ∙ ap (λ x. Some (call_value f x ∷ left)) h.are ∙ ap (λ x. Some (x ∷ left)) (sym e)

pub array_made : (taken : Taken) (items : Option (PlainItems × ℕ)) (left : List PlainValue) (v : PlainValue) → IsItems taken items left → v ≡ array_value items → apply_array taken ≡ Some (v ∷ left)
array_made taken items left v h e = ap apply_array h.is_taken ∙ ap (λ x. Some (array_value x ∷ left)) h.are ∙ ap (λ x. Some (x ∷ left)) (sym e)

read_row : (x : List ℕ) (taken : Taken) (row left : List PlainValue) → taken ≡ Some (row, left) → apply_read x taken ≡ put_if (is_known x) (read_value (known_value (variable_tree x) 1) row) left
read_row x taken row left h = ap (apply_read x) h

pub read_made : (x : List ℕ) (taken : Taken) (row left : List PlainValue) (a v : PlainValue) → taken ≡ Some (row, left) → is_known x ≡ true → a ≡ known_value (variable_tree x) 1 → v ≡ read_value a row → apply_read x taken ≡ Some (v ∷ left)
read_made x taken row left a v h p q e = read_row x taken row left h ∙ ap (λ b. put_if b (read_value (known_value (variable_tree x) 1) row) left) p ∙ ap (λ b. Some (read_value b row ∷ left)) (sym q) ∙ ap (λ b. Some (b ∷ left)) (sym e)

pub read_refused : (x : List ℕ) (taken : Taken) (row left : List PlainValue) → taken ≡ Some (row, left) → is_known x ≡ false → apply_read x taken ≡ None
read_refused x taken row left h p = read_row x taken row left h ∙ ap (λ b. put_if b (read_value (known_value (variable_tree x) 1) row) left) p

and_false : (a : Bool) → (a && false) ≡ false
and_false true = refl
and_false false = refl

assign_row : (x : List ℕ) (v : PlainValue) (taken : Taken) (keys : Option (PlainPath × ℕ)) (complete before_last : Bool) (left : List PlainValue) → IsPath taken keys complete before_last left → apply_assign x v taken ≡ put_if (is_writable x && before_last) (assign_value x keys v) left
assign_row x v taken keys complete before_last left h = ap (apply_assign x v) h.is_taken ∙ ap (λ b. put_if (is_writable x && b) (assign_value x (gather_path h.row) v) left) h.are_before_last ∙ ap (λ k. put_if (is_writable x && before_last) (assign_value x k v) left) h.are

pub assign_made : (x : List ℕ) (v : PlainValue) (taken : Taken) (keys : Option (PlainPath × ℕ)) (complete before_last : Bool) (left : List PlainValue) (w : PlainValue) → IsPath taken keys complete before_last left → is_writable x ≡ true → before_last ≡ true → w ≡ assign_value x keys v → apply_assign x v taken ≡ Some (w ∷ left)
assign_made x v taken keys complete before_last left w h p q e = assign_row x v taken keys complete before_last left h ∙ ap (λ b. put_if (b && before_last) (assign_value x keys v) left) p ∙ ap (λ b. put_if b (assign_value x keys v) left) q ∙ ap (λ u. Some (u ∷ left)) (sym e)

pub assign_refused : (x : List ℕ) (v : PlainValue) (taken : Taken) (keys : Option (PlainPath × ℕ)) (complete before_last : Bool) (left : List PlainValue) → IsPath taken keys complete before_last left → is_writable x ≡ false → apply_assign x v taken ≡ None
assign_refused x v taken keys complete before_last left h p = assign_row x v taken keys complete before_last left h ∙ ap (λ b. put_if (b && before_last) (assign_value x keys v) left) p

pub assign_open : (x : List ℕ) (v : PlainValue) (taken : Taken) (keys : Option (PlainPath × ℕ)) (complete before_last : Bool) (left : List PlainValue) → IsPath taken keys complete before_last left → before_last ≡ false → apply_assign x v taken ≡ None
assign_open x v taken keys complete before_last left h p = assign_row x v taken keys complete before_last left h ∙ ap (λ b. put_if (is_writable x && b) (assign_value x keys v) left) p ∙ ap (λ b. put_if b (assign_value x keys v) left) (and_false (is_writable x))

update_row : (u : UpdateSign) (x : List ℕ) (v : PlainValue) (taken : Taken) (keys : Option (PlainPath × ℕ)) (complete before_last : Bool) (left : List PlainValue) → IsPath taken keys complete before_last left → apply_update u x v taken ≡ put_if (is_writable x && complete) (update_value u x keys v) left
update_row u x v taken keys complete before_last left h = ap (apply_update u x v) h.is_taken ∙ ap (λ b. put_if (is_writable x && b) (update_value u x (gather_path h.row) v) left) h.are_complete ∙ ap (λ k. put_if (is_writable x && complete) (update_value u x k v) left) h.are

pub update_made : (u : UpdateSign) (x : List ℕ) (v : PlainValue) (taken : Taken) (keys : Option (PlainPath × ℕ)) (complete before_last : Bool) (left : List PlainValue) (w : PlainValue) → IsPath taken keys complete before_last left → is_writable x ≡ true → complete ≡ true → w ≡ update_value u x keys v → apply_update u x v taken ≡ Some (w ∷ left)
update_made u x v taken keys complete before_last left w h p q e = update_row u x v taken keys complete before_last left h ∙ ap (λ b. put_if (b && complete) (update_value u x keys v) left) p ∙ ap (λ b. put_if b (update_value u x keys v) left) q ∙ ap (λ y. Some (y ∷ left)) (sym e)

pub update_refused : (u : UpdateSign) (x : List ℕ) (v : PlainValue) (taken : Taken) (keys : Option (PlainPath × ℕ)) (complete before_last : Bool) (left : List PlainValue) → IsPath taken keys complete before_last left → is_writable x ≡ false → apply_update u x v taken ≡ None
update_refused u x v taken keys complete before_last left h p = update_row u x v taken keys complete before_last left h ∙ ap (λ b. put_if (b && complete) (update_value u x keys v) left) p

pub update_open : (u : UpdateSign) (x : List ℕ) (v : PlainValue) (taken : Taken) (keys : Option (PlainPath × ℕ)) (complete before_last : Bool) (left : List PlainValue) → IsPath taken keys complete before_last left → complete ≡ false → apply_update u x v taken ≡ None
update_open u x v taken keys complete before_last left h p = update_row u x v taken keys complete before_last left h ∙ ap (λ b. put_if (is_writable x && b) (update_value u x keys v) left) p ∙ ap (λ b. put_if b (update_value u x keys v) left) (and_false (is_writable x))

pub not_true : (b : Bool) → not b ≡ true → b ≡ false
not_true true e = absurd (cc)
not_true false e = refl

pub not_false : (b : Bool) → not b ≡ false → b ≡ true
not_false true e = refl
not_false false e = absurd (cc)
