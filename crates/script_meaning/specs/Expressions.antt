-- What an expression gives (PHP manual, "Expressions", "Operators", "Variables", "Arrays"). Parts are evaluated from the left to the right,
-- each once. The manual leaves the order within one expression open; this project's rule is that a variable is read where it stands, so
-- that
-- `$i + $i++` at 1 gives 2, where PHP itself gives 3.
use Rattle.std.specs.Prelude.{ℕ, Bool, true, false, not, if◌then◌else◌, List, [], ◌∷◌, Option, Some, None, Result, Ok}
use Rattle.std.specs.List.{list_all}
use Rattle.std.specs.Ordering.{is_le, is_gt, is_ge}
use Rattle.php_syntax.specs.declared.tree.ArithSign.{ArithSign}
use Rattle.php_syntax.specs.declared.tree.ArithSign.TheVariants.{Add, Sub, Mul, Rem}
use Rattle.php_syntax.specs.declared.tree.CompareSign.{CompareSign}
use Rattle.php_syntax.specs.declared.tree.CompareSign.TheVariants.{Equal, NotEqual, Identical, NotIdentical, Less, LessEqual, Greater, GreaterEqual}
use Rattle.php_syntax.specs.declared.tree.UpdateSign.{UpdateSign}
use Rattle.php_syntax.specs.declared.tree.UpdateSign.TheVariants as update
use Rattle.php_syntax.specs.Trees.{PlainExpr, null_expr, flag_expr, int_expr, text_expr, var_expr, super_expr, member_expr, array_expr, join_expr, neg_expr, not_expr, arith_expr, compare_expr, and_expr, or_expr, coalesce_expr, choice_expr, isset_expr, empty_expr, assign_expr, update_expr, step_expr, call_expr, MaybeExpr, no_expr, some_expr, PlainExprs, no_exprs, more_exprs, PlainItems, no_items, more_items, PlainPath, no_keys, more_keys}
use Rattle.plain_values.specs.Plain.{Plain, null, flag, int, text, array, empty}
use Rattle.plain_values.specs.Text.{truth}
use Rattle.plain_values.specs.Compare.{compare, ask, loose_equal, less}
use Rattle.plain_values.specs.Arithmetic.{sum_of, difference_of, product_of, remainder_of, negation_of, increment_of, decrement_of}
use Rattle.plain_values.specs.Joins.{join_of, appended_to}
use Rattle.plain_values.specs.Outcome.{go_on}
use Rattle.plain_values.specs.Identity.{identical}
use Rattle.plain_values.specs.Paths.{Step, subscript_of, path_of, read, write, add_item}
use Rattle.plain_values.specs.Walks.{is_null}
use Rattle.plain_values.specs.declared.fault.Fault.{Fault}
use Rattle.script_meaning.specs.Requests.{PlainRequest, request_array}
use Rattle.script_meaning.specs.Runs.{State, Run, Going, ◌then_do◌, result_of, value_in, with_variable}

-- what expressions are evaluated in: the request, and what a call of a function of some name gives for some arguments
pub record Environment : Type 0 where
  pub request : PlainRequest
  pub call : List ℕ → List Plain → State → Run Plain

-- `+ - * %`
unfoldable pub arithmetic : ArithSign → Plain → Plain → Result Plain Fault
arithmetic Add a b = sum_of a b
arithmetic Sub a b = difference_of a b
arithmetic Mul a b = product_of a b
arithmetic Rem a b = remainder_of a b

-- `== != === !== < <= > >=`
unfoldable pub comparison : CompareSign → Plain → Plain → Result Bool Fault
comparison Equal a b = loose_equal a b
comparison NotEqual a b = go_on (loose_equal a b) (λ answer. Ok (not answer))
comparison Identical a b = Ok (identical a b)
comparison NotIdentical a b = Ok (not (identical a b))
comparison Less a b = less a b
comparison LessEqual a b = ask is_le (compare a b)
comparison Greater a b = ask is_gt (compare a b)
comparison GreaterEqual a b = ask is_ge (compare a b)

-- the old value and the right side of `.= += -= *= %=`; `??=` leaves the right side
unfoldable pub updated : UpdateSign → Plain → Plain → Result Plain Fault
updated update.Join old right = appended_to old right
updated update.Add old right = sum_of old right
updated update.Sub old right = difference_of old right
updated update.Mul old right = product_of old right
updated update.Rem old right = remainder_of old right
updated update.Coalesce old right = Ok right

-- `??=` writes only where the old value is null, the others always
unfoldable pub is_kept : UpdateSign → Plain → Bool
is_kept update.Coalesce old = not (is_null old)
is_kept _ old = false

-- `++` and `--`
unfoldable pub stepped : Bool → Plain → Result Plain Fault
stepped true old = increment_of old
stepped false old = decrement_of old

-- the value of a variable after a write at the end of some subscripts, which become keys only now
unfoldable pub assigned : List (Option Plain) → Plain → Plain → Result Plain Fault
assigned [] new old = Ok new
assigned (k ∷ ks) new old = go_on (path_of (k ∷ ks)) (λ path. write path new old)

-- a write of a variable at the end of a path, which gives the value that was written
unfoldable pub store : List ℕ → List Step → Plain → State → Run Plain
unfolding result_of
store x [] new s = Going new (with_variable s x new)
store x (k ∷ ks) new s = result_of (write (k ∷ ks) new (value_in s.variables x)) s then_do λ whole s. Going new (with_variable s x whole)

-- `.=` and its like: the old value is read, then the right side is evaluated, and then the result is written (this project's order: PHP
-- reads the
-- old value of a plain variable after the right side)
unfoldable pub update_at : UpdateSign → List ℕ → List Step → (State → Run Plain) → State → Run Plain
unfolding result_of updated is_kept store
update_at sign x path right s =
    result_of (read path (value_in s.variables x)) s then_do λ old s.
    (if is_kept sign old then Going old s
    else (right s then_do λ v s. (result_of (updated sign old v) s then_do λ new s. store x path new s)))

unfoldable mutual
  unfolding request_array arithmetic comparison stepped assigned update_at result_of

  -- the value of an expression with the state behind it, or the end of the run within it
  pub value : Environment → PlainExpr → State → Run Plain
  value w null_expr s = Going null s
  value w (flag_expr b) s = Going (flag b) s
  value w (int_expr z) s = Going (int z) s
  value w (text_expr t) s = Going (text t) s
  -- a variable that was never written is null
  value w (var_expr x) s = Going (value_in s.variables x) s
  -- `$_GET` and its like
  value w (super_expr name) s = Going (array (request_array w.request name)) s
  -- `a[k]`
  value w (member_expr a k) s = value w a s then_do λ v s. (value w k s then_do λ subscript s. result_of (subscript_of v subscript) s)
  -- `[k => a, b]`, item by item
  value w (array_expr items) s = items_in w items (array empty) s
  -- `a . b`, and a text with variables in it
  value w (join_expr parts) s = values w parts s then_do λ vs s. result_of (join_of vs) s
  value w (neg_expr a) s = value w a s then_do λ v s. result_of (negation_of v) s
  value w (not_expr a) s = value w a s then_do λ v s. Going (flag (not (truth v))) s
  value w (arith_expr sign a b) s = value w a s then_do λ left s. (value w b s then_do λ right s. result_of (arithmetic sign left right) s)
  value w (compare_expr sign a b) s =
      value w a s then_do λ left s. (value w b s then_do λ right s. (result_of (comparison sign left right) s then_do λ answer s. Going
      (flag answer) s))
  -- `&&` and `||` evaluate their right side only where they need it
  value w (and_expr a b) s = value w a s then_do λ v s. (if truth v then (value w b s then_do λ u s. Going (flag (truth u)) s)
      else Going (flag false) s)
  value w (or_expr a b) s = value w a s then_do λ v s. (if truth v then Going (flag true) s
      else (value w b s then_do λ u s. Going (flag (truth u)) s))
  -- `a ?? b`
  value w (coalesce_expr a b) s = value w a s then_do λ v s. (if is_null v then value w b s else Going v s)
  -- `c ? a : b`, and `c ?: b`, which gives the value of c where it is true
  value w (choice_expr c no_expr b) s = value w c s then_do λ v s. (if truth v then Going v s else value w b s)
  value w (choice_expr c (some_expr a) b) s = value w c s then_do λ v s. (if truth v then value w a s else value w b s)
  -- `isset` reads all its operands, also behind one that is null (this project's rule, which shows in faults alone)
  value w (isset_expr parts) s = values w parts s then_do λ vs s. Going (flag (list_all (λ v. not (is_null v)) vs)) s
  value w (empty_expr a) s = value w a s then_do λ v s. Going (flag (not (truth v))) s
  -- `$x[k] = e`: the subscripts, then the value, then the write
  value w (assign_expr x path e) s =
      subscripts w path s then_do λ ks s.
      (value w e s then_do λ new s. (result_of (assigned ks new (value_in s.variables x)) s then_do λ whole s. Going new
      (with_variable s x whole)))
  -- `$x[k] .= e`: the subscripts, which become keys at once, then the old value, then the right side
  value w (update_expr sign x path e) s =
      subscripts w path s then_do λ ks s. (result_of (path_of ks) s then_do λ path s. update_at sign x path (value w e) s)
  -- `++$x` gives the new value and `$x++` the old one
  value w (step_expr x up before) s =
      result_of (stepped up (value_in s.variables x)) s then_do λ new s. Going (if before then new else value_in s.variables x)
      (with_variable s x new)
  value w (call_expr name args) s = values w args s then_do λ vs s. w.call name vs s

  -- the values of expressions, which are evaluated from the left to the right
  pub values : Environment → PlainExprs → State → Run (List Plain)
  values w no_exprs s = Going [] s
  values w (more_exprs e es) s = value w e s then_do λ v s. (values w es s then_do λ vs s. Going (v ∷ vs) s)

  -- the value of an expression, where one is written
  pub maybe_value : Environment → MaybeExpr → State → Run (Option Plain)
  maybe_value w no_expr s = Going None s
  maybe_value w (some_expr e) s = value w e s then_do λ v s. Going (Some v) s

  -- each item is put in after its key and its value
  pub items_in : Environment → PlainItems → Plain → State → Run Plain
  items_in w no_items made s = Going made s
  items_in w (more_items k e is) made s =
      maybe_value w k s then_do λ key s.
      (value w e s then_do λ new s. (result_of (add_item made key new) s then_do λ made s. items_in w is made s))

  -- the values of subscripts, which are evaluated from the left to the right; `[]` has none
  pub subscripts : Environment → PlainPath → State → Run (List (Option Plain))
  subscripts w no_keys s = Going [] s
  subscripts w (more_keys k ks) s = maybe_value w k s then_do λ v s. (subscripts w ks s then_do λ vs s. Going (v ∷ vs) s)
