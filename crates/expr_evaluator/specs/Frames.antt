-- What a frame makes of the value that it waits for, and what a stack of frames makes of it: the rest of the expression that is being
-- evaluated.
use Rattle.std.specs.Prelude.{ℕ, Bool, true, false, not, if◌then◌else◌, List, [], ◌∷◌, ◌++◌, Option, Some, None}
use Rattle.std.specs.List.{list_all}
use Rattle.std.specs.Borrow.{Bor}
use Rattle.php_syntax.specs.declared.tree.Expr.{Expr}
use Rattle.php_syntax.specs.declared.tree.UpdateSign.{UpdateSign}
use Rattle.php_syntax.specs.Trees.{MaybeExpr, no_expr, some_expr, PlainFunction, plain_expr, plain_function, exprs_of, items_of, path_of}
use Rattle.plain_values.specs.Plain.{Plain, flag, array}
use Rattle.plain_values.specs.Text.{truth}
use Rattle.plain_values.specs.Walks.{is_null}
use Rattle.plain_values.specs.Joins.{join_of}
use Rattle.plain_values.specs.Arithmetic.{negation_of}
use Rattle.plain_values.specs.Paths as paths
use Rattle.plain_values.specs.declared.fault.Fault.{Fault}
use Rattle.builtin_meaning.specs.Names.{builtin_named}
use Rattle.php_values.specs.View.{plain_of, plain_list, plain_path}
use Rattle.php_values.specs.declared.array.Value.{Value}
use Rattle.script_meaning.specs.Requests.{PlainRequest}
use Rattle.script_meaning.specs.Runs.{State, Run, Going, Over, Faulted, ◌then_do◌, result_of, value_in, with_variable, with_unit}
use Rattle.script_meaning.specs.Programs.{function_named}
use Rattle.script_meaning.specs.Expressions.{Environment, value, values, items_in, subscripts, arithmetic, comparison, assigned, updated, stepped, update_at, store}
use Rattle.script_meaning.specs.Meaning.{builtin_or, call_one}
use Rattle.expr_evaluator.specs.declared.frame.Purpose.{Purpose}
use Rattle.expr_evaluator.specs.declared.frame.Purpose.TheVariants as purpose
use Rattle.expr_evaluator.specs.declared.frame.Writing.{Writing}
use Rattle.expr_evaluator.specs.declared.frame.Writing.TheVariants as writing
use Rattle.expr_evaluator.specs.declared.frame.Frame.{Frame}
use Rattle.expr_evaluator.specs.declared.frame.Frame.TheVariants as frame
use Rattle.expr_evaluator.specs.declared.frame.Focus.{Focus}
use Rattle.expr_evaluator.specs.declared.frame.Focus.TheVariants as focus
use Rattle.expr_evaluator.specs.declared.frame.Pause.{Pause}
use Rattle.expr_evaluator.specs.declared.frame.Pause.TheVariants as pause

-- what a function of the script does with its arguments, once its call has taken its unit
abbrev pub Entering : Type 0
Entering = PlainFunction → List Plain → State → Run Plain

-- what expressions are evaluated in: a request, the functions of a script, and what each does
abbrev pub world : PlainRequest → List PlainFunction → Entering → Environment
world r fs enter = record {
  request = r;
  call = λ name args s. builtin_or (builtin_named name) args (call_one (function_named fs name) (λ f t. enter f args t)) s;
}

-- subscripts, where `[]` is none
abbrev pub plain_maybe : Option Value → Option Plain
plain_maybe None = None
plain_maybe (Some v) = Some (plain_of v)

-- the plain form of subscripts in their order
abbrev pub plain_maybes : List (Option Value) → List (Option Plain)
plain_maybes [] = []
plain_maybes (v ∷ vs) = plain_maybe v ∷ plain_maybes vs

-- `++` and `--` of a variable
unfoldable pub step_in : List ℕ → Bool → Bool → State → Run Plain
step_in x up before s = result_of (stepped up (value_in s.variables x)) s then_do λ new s. Going
    (if before then new else value_in s.variables x) (with_variable s x new)

-- a write of a variable at the end of subscripts, and what an assignment that read its target first writes
unfoldable pub assign_in : List ℕ → List (Option Plain) → Plain → State → Run Plain
assign_in x ks v s = result_of (assigned ks v (value_in s.variables x)) s then_do λ whole s. Going v (with_variable s x whole)

-- an assignment with an operator, from the old value of the target and the value of the right side
unfoldable pub update_in : UpdateSign → List ℕ → List paths.Step → Plain → Plain → State → Run Plain
update_in sign x path old v s = result_of (updated sign old v) s then_do λ new s. store x path new s

-- an expression by a reference to it, if there is one
abbrev pub maybe_plain : Option (Bor Expr) → MaybeExpr
maybe_plain None = no_expr
maybe_plain (Some e) = some_expr (plain_expr e.now)

-- what values in a row come to
unfoldable pub row_done : Environment → Purpose → List Plain → State → Run Plain
row_done w purpose.Join vs s = result_of (join_of vs) s
row_done w purpose.Isset vs s = Going (flag (list_all (λ v. not (is_null v)) vs)) s
row_done w (purpose.Call name) vs s = w.call name.now vs s

-- what goes on behind the subscripts of a target
unfoldable pub keys_done : Environment → Writing → List (Option Plain) → State → Run Plain
keys_done w (writing.Assign x e) ks s = value w (plain_expr e.now) s then_do λ new s. (assign_in x.now ks new s)
keys_done w (writing.Update sign x e) ks s =
    result_of (paths.path_of ks) s then_do λ path s. update_at sign x.now path (value w (plain_expr e.now)) s

-- what a frame makes of the value that it waits for
unfoldable pub after_value : Environment → Frame → Plain → State → Run Plain
after_value w (frame.Subscript k) v s = value w (plain_expr k.now) s then_do λ subscript s. result_of (paths.subscript_of v subscript) s
after_value w (frame.Container a) v s = result_of (paths.subscript_of (plain_of a) v) s
after_value w (frame.ItemKey e rest made) v s =
    value w (plain_expr e.now) s then_do λ new s.
    (result_of (paths.add_item (array made) (Some v) new) s then_do λ made s. items_in w (items_of rest.now) made s)
after_value w (frame.ItemValue key rest made) v s =
    result_of (paths.add_item (array made) (plain_maybe key) v) s then_do λ made s. items_in w (items_of rest.now) made s
after_value w (frame.Row p rest done) v s =
    values w (exprs_of rest.now) s then_do λ vs s. row_done w p ((plain_list done.items ++ v ∷ []) ++ vs) s
after_value w (frame.Keys p rest done) v s =
    subscripts w (path_of rest.now) s then_do λ ks s. keys_done w p ((plain_maybes done.items ++ Some v ∷ []) ++ ks) s
after_value w frame.Negation v s = result_of (negation_of v) s
after_value w frame.Not v s = Going (flag (not (truth v))) s
after_value w frame.Truth v s = Going (flag (truth v)) s
after_value w (frame.ArithRight sign b) v s = value w (plain_expr b.now) s then_do λ right s. result_of (arithmetic sign v right) s
after_value w (frame.ArithLeft sign a) v s = result_of (arithmetic sign (plain_of a) v) s
after_value w (frame.CompareRight sign b) v s =
    value w (plain_expr b.now) s then_do λ right s. (result_of (comparison sign v right) s then_do λ answer s. Going (flag answer) s)
after_value w (frame.CompareLeft sign a) v s = result_of (comparison sign (plain_of a) v) s then_do λ answer s. Going (flag answer) s
after_value w (frame.And b) v s =
    if truth v then (value w (plain_expr b.now) s then_do λ u s. Going (flag (truth u)) s) else Going (flag false) s
after_value w (frame.Or b) v s =
    if truth v then Going (flag true) s else (value w (plain_expr b.now) s then_do λ u s. Going (flag (truth u)) s)
after_value w (frame.Coalesce b) v s = if is_null v then value w (plain_expr b.now) s else Going v s
after_value w (frame.Choice None b) v s = if truth v then Going v s else value w (plain_expr b.now) s
after_value w (frame.Choice (Some a) b) v s = if truth v then value w (plain_expr a.now) s else value w (plain_expr b.now) s
after_value w (frame.Assign x ks) v s = assign_in x.now (plain_maybes ks.items) v s
after_value w (frame.Update sign x path old) v s = update_in sign x.now (plain_path path.items) (plain_of old) v s

-- what frames make of a value, the first frame first
unfoldable pub values_then : Environment → List Frame → Plain → State → Run Plain
values_then w [] v s = Going v s
values_then w (f ∷ k) v s = after_value w f v s then_do values_then w k

-- what a focus comes to by itself; a call of a function of the script takes its unit
unfoldable pub focused : Entering → Environment → Focus → State → Run Plain
focused enter w (focus.Eval e) s = value w (plain_expr e.now) s
focused enter w (focus.Value v) s = Going (plain_of v) s
focused enter w (focus.Row p rest done) s = values w (exprs_of rest.now) s then_do λ vs s. row_done w p (plain_list done.items ++ vs) s
focused enter w (focus.Items rest made) s = items_in w (items_of rest.now) (array made) s
focused enter w (focus.Keys p rest done) s =
    subscripts w (path_of rest.now) s then_do λ ks s. keys_done w p (plain_maybes done.items ++ ks) s
focused enter w (focus.Call f args) s = with_unit s λ s. enter (plain_function f.now) (plain_list args.items) s
focused enter w (focus.Fault fault) s = Over (Faulted fault) s.printed

-- what a pause comes to by itself
unfoldable pub paused : Entering → Pause → State → Run Plain
paused enter (pause.Value v) s = Going (plain_of v) s
paused enter (pause.Call f args) s = with_unit s λ s. enter (plain_function f.now) (plain_list args.items) s
paused enter (pause.Fault fault) s = Over (Faulted fault) s.printed

-- what is to come, with this to do next and these frames behind it
abbrev pub ahead : Entering → Environment → Focus → List Frame → State → Run Plain
ahead enter w f k s = focused enter w f s then_do values_then w k
