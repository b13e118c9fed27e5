-- The moves of rows, items and subscripts.
use Rattle.std.proofs.Common.{◌≡◌, ℕ, ◌+◌, List, [], ◌∷◌, ◌++◌, refl, sym, ap, ◌∙◌, subst, arith, Bor, append_assoc, Bool}
use Rattle.std.specs.List.{list_all}
use Rattle.std.specs.Prelude.{not, Option, Some, None, Result, Ok, Err}
use Rattle.std.specs.declared.vec.Vec.{Vec}
use Rattle.std.specs.declared.alloc.Global.{Global}
use Rattle.php_syntax.specs.declared.tree.Expr.{Expr}
use Rattle.php_syntax.specs.declared.tree.FunctionDef.{FunctionDef}
use Rattle.builtin_meaning.specs.declared.builtin.Builtin.{Builtin}
use Rattle.builtin_meaning.specs.Names.{builtin_named}
use Rattle.builtin_meaning.specs.Values.{builtin_value}
use Rattle.plain_values.specs.Joins.{join_of}
use Rattle.plain_values.specs.Walks.{is_null}
use Rattle.script_meaning.specs.Programs.{function_named}
use Rattle.script_meaning.specs.Meaning.{builtin_or, call_one}
use Rattle.php_syntax.specs.Trees.{PlainExpr, PlainExprs, PlainItems, PlainPath, PlainFunction, plain_expr, plain_function, exprs_of, items_of, path_of, more_exprs, more_items, more_keys, no_expr, some_expr}
use Rattle.plain_values.specs.Plain.{Plain, Pairs, array}
use Rattle.plain_values.specs.Paths as paths
use Rattle.plain_values.specs.declared.fault.Fault.{Fault}
use Rattle.php_values.specs.declared.array.Value.{Value}
use Rattle.php_values.specs.declared.array.Value.TheVariants as variant
use Rattle.php_values.specs.View.{plain_list}
use Rattle.script_meaning.specs.Requests.{PlainRequest}
use Rattle.script_meaning.specs.Runs.{State, Going, ◌then_do◌, result_of}
use Rattle.script_meaning.specs.Expressions.{Environment, value, values, maybe_value, items_in, subscripts}
use Rattle.expr_evaluator.specs.declared.frame.Purpose.{Purpose}
use Rattle.expr_evaluator.specs.declared.frame.Purpose.TheVariants as purpose
use Rattle.expr_evaluator.specs.declared.frame.Writing.{Writing}
use Rattle.expr_evaluator.specs.declared.frame.Frame.TheVariants as frame
use Rattle.expr_evaluator.specs.declared.frame.Focus.{Focus}
use Rattle.expr_evaluator.specs.declared.frame.Focus.TheVariants as focus
use Rattle.expr_evaluator.specs.declared.evaluator.Evaluator.{Evaluator}
use Rattle.expr_evaluator.specs.Frames.{world, focused, values_then, after_value, row_done, keys_done, plain_maybe, plain_maybes}
use Rattle.expr_evaluator.specs.Cost.{frame_cost, focus_cost, items_cost, row_cost, path_cost}
use Rattle.expr_evaluator.specs.Moves.{Moves, Takes, Opens, Finishes, Reads, Tells, seeing}
use Rattle.expr_evaluator.proofs.Runs.{assoc, same_then}
use Rattle.expr_evaluator.proofs.Opening.{opened_same, opened_less, gives}
use Rattle.expr_evaluator.proofs.GiveMoves.{maybes_push, told, light}

pub append_none : {A : Type 0} (xs : List A) → xs ++ [] ≡ xs
append_none [] = refl
append_none (x ∷ xs) = ap (λ ys. x ∷ ys) (append_none xs)

-- rows

row_first : (w : Environment) (p : Purpose) (ds : List Plain) (e : PlainExpr) (es : PlainExprs) (s : State)
    → (values w (more_exprs e es) s then_do λ vs t. row_done w p (ds ++ vs) t) ≡ (value w e s then_do λ v t. (values w es t then_do λ vs u. row_done w p ((ds ++ v ∷ []) ++ vs) u))
unfolding values ◌then_do◌
row_first w p ds e es s =
    assoc (value w e s) _ _ ∙ same_then (value w e s) _ _ λ v t. assoc (values w es t) _ _ ∙ same_then (values w es t) _ _ λ vs u. ap (λ xs. row_done w p xs u) (sym (append_assoc ds (v ∷ []) vs))

pub row_ends : (r : PlainRequest) (fs : List PlainFunction) (p : Purpose) (rest : Bor (List Expr)) (done : Vec Value Global) (m : Evaluator) (f : Focus) → rest.now ≡ [] → Finishes fs p (plain_list done.items) f → Moves r fs (focus.Row p rest done) m f m
unfolding focused focus_cost values ◌then_do◌ row_cost
row_ends r fs p rest done m f none h = record {
  same = λ enter s. rw none (ap (λ x. x then_do values_then (world r fs enter) m.frames) (h.gives r enter (seeing s m.variables) ∙ ap (λ xs. row_done (world r fs enter) p xs (seeing s m.variables)) (sym (append_none (plain_list done.items)))));
  less = rw none (omega (arith, h.light));
}

pub row_goes : (r : PlainRequest) (fs : List PlainFunction) (p : Purpose) (rest others : Bor (List Expr)) (first : Bor Expr) (done : Vec Value Global) (m m' : Evaluator) (f : Focus) → rest.now ≡ first.now ∷ others.now
    → Opens (frame.Row p others done) first m f m' → Moves r fs (focus.Row p rest done) m f m'
unfolding focused focus_cost row_cost after_value frame_cost
row_goes r fs p rest others first done m m' f is o = record {
  same = λ enter s. rw is (opened_same enter (world r fs enter) _ first m m' f _ s o (row_first (world r fs enter) p (plain_list done.items) (plain_expr first.now) (exprs_of others.now)));
  less = rw is (opened_less _ first m m' f _ o (omega arith));
}

-- items

pub items_end : (r : PlainRequest) (fs : List PlainFunction) (rest : Bor (List (Option Expr × Expr))) (made : Pairs) (m : Evaluator) → rest.now ≡ [] → Moves r fs (focus.Items rest made) m (focus.Value (variant.Array made)) m
unfolding focused focus_cost items_in items_cost
items_end r fs rest made m none = record { same = λ enter s. rw none refl; less = rw none (omega arith) }

items_first : (w : Environment) (k e : PlainExpr) (is : PlainItems) (made : Plain) (s : State)
    → items_in w (more_items (some_expr k) e is) made s ≡ (value w k s then_do λ v t. (value w e t then_do λ new u. (result_of (paths.add_item made (Some v) new) u then_do λ a z. items_in w is a z)))
unfolding items_in ◌then_do◌
items_first w k e is made s =
    assoc (value w k s) (λ v t. Going (Some v) t) (λ key t. (value w e t then_do λ new u. (result_of (paths.add_item made key new) u then_do λ a z. items_in w is a z)))

pub items_keyed : (r : PlainRequest) (fs : List PlainFunction) (rest others : Bor (List (Option Expr × Expr))) (item : Option Expr × Expr) (key e : Bor Expr) (made : Pairs) (m m' : Evaluator) (f : Focus) → Opens (frame.ItemKey e others made) key m f m' → rest.now ≡ item ∷ others.now → item.0 ≡ Some key.now → item.1 ≡ e.now
    → Moves r fs (focus.Items rest made) m f m'
unfolding focused focus_cost items_cost after_value frame_cost
items_keyed r fs rest others item key e made m m' f o is at to = record {
  same = λ enter s. rw (is, at, to) (opened_same enter (world r fs enter) (frame.ItemKey e others made) key m m' f (items_in (world r fs enter) (more_items (some_expr (plain_expr key.now)) (plain_expr e.now) (items_of others.now)) (array made)) s o (items_first (world r fs enter) (plain_expr key.now) (plain_expr e.now) (items_of others.now) (array made)));
  less = rw (is, at, to) (opened_less (frame.ItemKey e others made) key m m' f _ o (omega arith));
}

pub items_unkeyed : (r : PlainRequest) (fs : List PlainFunction) (rest others : Bor (List (Option Expr × Expr))) (item : Option Expr × Expr) (e : Bor Expr) (made : Pairs) (m m' : Evaluator) (f : Focus) → Opens (frame.ItemValue None others made) e m f m' → rest.now ≡ item ∷ others.now → item.0 ≡ None → item.1 ≡ e.now
    → Moves r fs (focus.Items rest made) m f m'
unfolding focused focus_cost items_in items_cost after_value frame_cost ◌then_do◌
items_unkeyed r fs rest others item e made m m' f o is at to = record {
  same = λ enter s. rw (is, at, to) (opened_same enter (world r fs enter) (frame.ItemValue None others made) e m m' f (items_in (world r fs enter) (more_items no_expr (plain_expr e.now) (items_of others.now)) (array made)) s o (λ t. refl));
  less = rw (is, at, to) (opened_less (frame.ItemValue None others made) e m m' f _ o (omega arith));
}

pub item_put : (r : PlainRequest) (fs : List PlainFunction) (v : Plain) (key : Option Value) (rest : Bor (List (Option Expr × Expr))) (made made' : Pairs) (m : Evaluator) → paths.add_item (array made) (plain_maybe key) v ≡ Ok (array made')
    → Takes r fs v (frame.ItemValue key rest made) m (focus.Items rest made') m
unfolding focused focus_cost after_value frame_cost result_of ◌then_do◌
item_put r fs v key rest made made' m h = gives r fs v _ m _ (λ enter s. rw h refl) (omega arith)

pub item_fault : (r : PlainRequest) (fs : List PlainFunction) (v : Plain) (key : Option Value) (rest : Bor (List (Option Expr × Expr))) (made : Pairs) (fault : Fault) (m : Evaluator) → paths.add_item (array made) (plain_maybe key) v ≡ Err fault
    → Takes r fs v (frame.ItemValue key rest made) m (focus.Fault fault) m
unfolding focused focus_cost after_value frame_cost result_of ◌then_do◌
item_fault r fs v key rest made fault m h = gives r fs v _ m _ (λ enter s. rw h refl) (omega arith)

-- subscripts

keys_first : (w : Environment) (p : Writing) (ds : List (Option Plain)) (e : PlainExpr) (ks : PlainPath) (s : State)
    → (subscripts w (more_keys (some_expr e) ks) s then_do λ vs t. keys_done w p (ds ++ vs) t) ≡ (value w e s then_do λ v t. (subscripts w ks t then_do λ vs u. keys_done w p ((ds ++ Some v ∷ []) ++ vs) u))
unfolding subscripts ◌then_do◌
keys_first w p ds e ks s =
    assoc (maybe_value w (some_expr e) s) _ _ ∙ assoc (value w e s) _ _ ∙ same_then (value w e s) _ _ λ v t. assoc (subscripts w ks t) _ _ ∙ same_then (subscripts w ks t) _ _ λ vs u. ap (λ xs. keys_done w p xs u) (sym (append_assoc ds (Some v ∷ []) vs))

pub keys_end : (r : PlainRequest) (fs : List PlainFunction) (p : Writing) (rest : Bor (List (Option Expr))) (done : Vec (Option Value) Global) (m m' : Evaluator) (f : Focus) → rest.now ≡ [] → Reads p (plain_maybes done.items) m f m' → Moves r fs (focus.Keys p rest done) m f m'
unfolding focused focus_cost subscripts ◌then_do◌ path_cost
keys_end r fs p rest done m m' f none h = record {
  same = λ enter s. rw none (h.same r fs enter s ∙ ap (λ xs. keys_done (world r fs enter) p xs (seeing s m.variables) then_do values_then (world r fs enter) m.frames) (sym (append_none (plain_maybes done.items))));
  less = rw none (omega (arith, h.less));
}

pub keys_some : (r : PlainRequest) (fs : List PlainFunction) (p : Writing) (rest others : Bor (List (Option Expr))) (first : Option Expr) (e : Bor Expr) (done : Vec (Option Value) Global) (m m' : Evaluator) (f : Focus) → Opens (frame.Keys p others done) e m f m' → rest.now ≡ first ∷ others.now → first ≡ Some e.now
    → Moves r fs (focus.Keys p rest done) m f m'
unfolding focused focus_cost path_cost after_value frame_cost
keys_some r fs p rest others first e done m m' f o is at = record {
  same = λ enter s. rw (is, at) (opened_same enter (world r fs enter) _ e m m' f _ s o (keys_first (world r fs enter) p (plain_maybes done.items) (plain_expr e.now) (path_of others.now)));
  less = rw (is, at) (opened_less _ e m m' f _ o (omega arith));
}

pub keys_none : (r : PlainRequest) (fs : List PlainFunction) (p : Writing) (rest others : Bor (List (Option Expr))) (first : Option Expr) (done done' : Vec (Option Value) Global) (m : Evaluator) → rest.now ≡ first ∷ others.now → first ≡ None → done'.items ≡ done.items ++ None ∷ []
    → Moves r fs (focus.Keys p rest done) m (focus.Keys p others done') m
unfolding focused focus_cost subscripts ◌then_do◌ path_cost
keys_none r fs p rest others first done done' m is at h = record {
  same = λ enter s. rw (is, at, h, maybes_push done.items None) (ap (λ x. x then_do values_then (world r fs enter) m.frames) (sym (assoc (subscripts (world r fs enter) (path_of others.now) (seeing s m.variables)) _ _ ∙ same_then (subscripts (world r fs enter) (path_of others.now) (seeing s m.variables)) _ _ λ vs u. ap (λ xs. keys_done (world r fs enter) p xs u) (sym (append_assoc (plain_maybes done.items) (None ∷ []) vs)))));
  less = rw (is, at) (omega arith);
}

-- what values in a row come to
pub finishes_told : (fs : List PlainFunction) (p : Purpose) (vs : List Plain) (f : Focus) (answer : Result Plain Fault) → Tells f answer → ((w : Environment) (s : State) → row_done w p vs s ≡ result_of answer s) → Finishes fs p vs f
finishes_told fs p vs f answer t h = record { gives = λ r enter s. told enter (world r fs enter) f answer t s ∙ sym (h (world r fs enter) s); light = light f answer t }

pub joined_finishes : (fs : List PlainFunction) (vs : List Plain) (f : Focus) → Tells f (join_of vs) → Finishes fs purpose.Join vs f
unfolding row_done
joined_finishes fs vs f t = finishes_told fs purpose.Join vs f (join_of vs) t (λ w s. refl)

pub isset_finishes : (fs : List PlainFunction) (vs : List Plain) (b : Bool) → b ≡ list_all (λ v. not (is_null v)) vs → Finishes fs purpose.Isset vs (focus.Value (variant.Flag b))
unfolding row_done focused focus_cost
isset_finishes fs vs b h = record { gives = λ r enter s. rw h refl; light = omega arith }

module _ (fs : List PlainFunction) (name : Bor (List ℕ)) (vs : List Plain) where
  pub builtin_finishes : (b : Builtin) (f : Focus) → builtin_named name.now ≡ Some b → Tells f (builtin_value b vs) → Finishes fs (purpose.Call name) vs f
  unfolding row_done builtin_or
  builtin_finishes b f is t = record { gives = λ r enter s. told enter (world r fs enter) f (builtin_value b vs) t s ∙ rw is refl; light = light f (builtin_value b vs) t }

  pub missing_finishes : builtin_named name.now ≡ None → function_named fs name.now ≡ None → Finishes fs (purpose.Call name) vs (focus.Value variant.Null)
  unfolding row_done builtin_or call_one focused focus_cost
  missing_finishes none is = record { gives = λ r enter s. rw (none, is) refl; light = omega arith }

pub call_finishes : (fs : List PlainFunction) (name : Bor (List ℕ)) (f : Bor FunctionDef) (args : Vec Value Global) → builtin_named name.now ≡ None → function_named fs name.now ≡ Some (plain_function f.now) → Finishes fs (purpose.Call name) (plain_list args.items) (focus.Call f args)
unfolding row_done builtin_or call_one focused focus_cost
call_finishes fs name f args none is = record { gives = λ r enter s. rw (none, is) refl; light = omega arith }

pub finished_as : (fs : List PlainFunction) (p p' : Purpose) (xs ys : List Value) (f : Focus) → Finishes fs p' (plain_list xs) f → p ≡ p' → xs ≡ ys → Finishes fs p (plain_list ys) f
finished_as fs p p' xs ys f h e d = subst (λ q. Finishes fs q (plain_list ys) f) (sym e) (subst (λ zs. Finishes fs p' (plain_list zs) f) d h)

pub tells_fault : (f : Focus) (fault : Fault) (answer : Result Plain Fault) → f ≡ focus.Fault fault → answer ≡ Err fault → Tells f answer
tells_fault f fault answer e h = subst (λ g. Tells g answer) (sym e) h

pub item_fails : (r : PlainRequest) (fs : List PlainFunction) (v : Plain) (key : Option Value) (rest : Bor (List (Option Expr × Expr))) (made : Pairs) (fault : Fault) (m : Evaluator) (f : Focus) → f ≡ focus.Fault fault → paths.add_item (array made) (plain_maybe key) v ≡ Err fault → Takes r fs v (frame.ItemValue key rest made) m f m
item_fails r fs v key rest made fault m f e h = subst (λ g. Takes r fs v (frame.ItemValue key rest made) m g m) (sym e) (item_fault r fs v key rest made fault m h)

pub told_as : (b : Builtin) (xs ys : List Value) (f : Focus) → Tells f (builtin_value b (plain_list xs)) → xs ≡ ys → Tells f (builtin_value b (plain_list ys))
told_as b xs ys f t e = subst (λ zs. Tells f (builtin_value b (plain_list zs))) e t
