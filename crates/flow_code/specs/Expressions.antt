-- The points of an expression. Its parts come from the left to the right, as they are evaluated, and its value is left in a slot.
use Rattle.std.specs.Prelude.{ℕ, suc, ◌+◌, Bool, true, false, List, [], ◌∷◌, ◌++◌, Option, Some, None, take, drop, length, if◌then◌else◌, bytes_eq}
use Rattle.php_syntax.specs.declared.tree.UpdateSign.{UpdateSign}
use Rattle.php_syntax.specs.declared.tree.UpdateSign.TheVariants as update
use Rattle.php_syntax.specs.declared.tree.ArithSign.TheVariants.{Add, Sub, Mul, Rem}
use Rattle.php_syntax.specs.Trees.{PlainExpr, null_expr, flag_expr, int_expr, text_expr, var_expr, super_expr, member_expr, array_expr, join_expr, neg_expr, not_expr, arith_expr, compare_expr, and_expr, or_expr, coalesce_expr, choice_expr, isset_expr, empty_expr, assign_expr, update_expr, step_expr, call_expr, MaybeExpr, no_expr, some_expr, PlainExprs, no_exprs, more_exprs, PlainItems, no_items, more_items, PlainPath, no_keys, more_keys, PlainParam, PlainFunction}
use Rattle.plain_values.specs.Plain.{Plain, null, flag, int, text}
use Rattle.builtin_meaning.specs.declared.builtin.Builtin.{Builtin}
use Rattle.builtin_meaning.specs.Names.{builtin_named}
use Rattle.script_meaning.specs.Programs.{literal_value}
use Rattle.flow_code.specs.declared.source.Work.{Work}
use Rattle.flow_code.specs.declared.source.Work.TheVariants as work
use Rattle.flow_code.specs.Points.{PlainKeyRef, int_ref, text_ref, read_ref, PlainSource, literal_source, copy_source, super_source, member_source, array_source, put_source, concat_source, number_source, truth_source, PlainPoint, set_point, call_point, branch_point}
use Rattle.flow_code.specs.Variables.{Name, place_of}
use Rattle.flow_code.specs.Code.{Code, known, left, both, computed, computed_with, from_source}
use Rattle.flow_code.specs.Builtins.{builtin_source}

-- what names stand for in a function: the variables, whose slots are numbered from the function's first one, and the functions of the
-- program, which are numbered from 1
pub record Scope : Type 0 where
  pub base : ℕ
  pub names : List Name
  pub functions : List PlainFunction

-- the slot of a variable of the function
unfoldable pub variable : Scope → Name → ℕ
unfolding place_of
variable w x = w.base + place_of x w.names

-- a function of the script with its number, by its name
unfoldable pub function_in : ℕ → List PlainFunction → Name → Option (ℕ × PlainFunction)
function_in n [] name = None
function_in n (f ∷ fs) name = if bytes_eq f.name_of name then Some (n, f) else function_in (n + 1) fs name

-- a value that stands in the script
abbrev pub literal : Plain → Code ℕ
literal v = from_source (literal_source v)

-- a fresh slot set to an operation on one value
abbrev pub of_one : Work → (Work → List ℕ → PlainSource) → Code ℕ → Code ℕ
of_one sign source a = computed a (λ x. source sign (x ∷ []))

-- a fresh slot set to an operation on two values, the first of which is computed before the second
abbrev pub of_two : Work → (Work → List ℕ → PlainSource) → Code ℕ → Code ℕ → Code ℕ
of_two sign source a b = computed (both a b (λ x y. x ∷ y ∷ [])) (source sign)

-- `&&`: the right side is evaluated where the left one is true; either way the result is a truth value
abbrev pub both_true : Code ℕ → Code ℕ → Code ℕ
both_true a b = record {
  size = a.size + 1 + b.size + 1 + 1;
  slots = a.slots + b.slots + 1;
  points = λ p t.
      let right = p + a.size + 1 in
      let left = right + b.size + 1 in
      let result = t + a.slots + b.slots in
      a.points p t ++ (branch_point (a.gives t) right left ∷ b.points right (t + a.slots)
      ++ (set_point result (truth_source work.AsTruth (b.gives (t + a.slots) ∷ [])) (left + 1)
      ∷ set_point result (truth_source work.AsTruth (a.gives t ∷ [])) (left + 1) ∷ []));
  gives = λ t. t + a.slots + b.slots;
}

-- `||`: the right side is evaluated where the left one is false
abbrev pub one_true : Code ℕ → Code ℕ → Code ℕ
one_true a b = record {
  size = a.size + 1 + b.size + 1 + 1;
  slots = a.slots + b.slots + 1;
  points = λ p t.
      let right = p + a.size + 1 in
      let left = right + b.size + 1 in
      let result = t + a.slots + b.slots in
      a.points p t ++ (branch_point (a.gives t) left right ∷ b.points right (t + a.slots)
      ++ (set_point result (truth_source work.AsTruth (b.gives (t + a.slots) ∷ [])) (left + 1)
      ∷ set_point result (truth_source work.AsTruth (a.gives t ∷ [])) (left + 1) ∷ []));
  gives = λ t. t + a.slots + b.slots;
}

-- `a ?? b`: the left side where it is not null
abbrev pub first_there : Code ℕ → Code ℕ → Code ℕ
first_there a b = record {
  size = a.size + 3 + b.size + 1;
  slots = a.slots + 1 + b.slots + 1;
  points = λ p t.
      let test = t + a.slots in
      let left = p + a.size + 1 + 1 in
      let end = left + 1 + b.size + 1 in
      let result = test + 1 + b.slots in
      a.points p t ++ (set_point test (truth_source work.NotNull (a.gives t ∷ [])) (p + a.size + 1) ∷ branch_point test left (left + 1)
      ∷ set_point result (copy_source (a.gives t)) end ∷ b.points (left + 1) (test + 1)
      ++ (set_point result (copy_source (b.gives (test + 1))) end ∷ []));
  gives = λ t. t + a.slots + 1 + b.slots;
}

-- `c ? a : b`
abbrev pub chosen : Code ℕ → Code ℕ → Code ℕ → Code ℕ
chosen c a b = record {
  size = c.size + 1 + a.size + 1 + b.size + 1;
  slots = c.slots + a.slots + b.slots + 1;
  points = λ p t.
      let first = p + c.size + 1 in
      let second = first + a.size + 1 in
      let end = second + b.size + 1 in
      let result = t + c.slots + a.slots + b.slots in
      c.points p t ++ (branch_point (c.gives t) first second ∷ a.points first (t + c.slots)
      ++ (set_point result (copy_source (a.gives (t + c.slots))) end ∷ b.points second (t + c.slots + a.slots)
      ++ (set_point result (copy_source (b.gives (t + c.slots + a.slots))) end ∷ [])));
  gives = λ t. t + c.slots + a.slots + b.slots;
}

-- `c ?: b`: the value of c where it is true
abbrev pub chosen_itself : Code ℕ → Code ℕ → Code ℕ
chosen_itself c b = record {
  size = c.size + 1 + 1 + b.size + 1;
  slots = c.slots + b.slots + 1;
  points = λ p t.
      let first = p + c.size + 1 in
      let second = first + 1 in
      let end = second + b.size + 1 in
      let result = t + c.slots + b.slots in
      c.points p t ++ (branch_point (c.gives t) first second ∷ set_point result (copy_source (c.gives t)) end
      ∷ b.points second (t + c.slots)
      ++ (set_point result (copy_source (b.gives (t + c.slots))) end ∷ []));
  gives = λ t. t + c.slots + b.slots;
}

-- a write of a variable: whole, or at the end of a path
abbrev pub written : ℕ → List (Option PlainKeyRef) → ℕ → PlainSource
written x [] v = copy_source v
written x (k ∷ ks) v = put_source x (k ∷ ks) v

-- a path and a value, which is written into the variable; the value of the assignment is that of its right side
abbrev pub stored : ℕ → Code (List (Option PlainKeyRef) × ℕ) → Code ℕ
stored x a = record {
  size = a.size + 1;
  slots = a.slots;
  points = λ p t. a.points p t ++ set_point x (written x (a.gives t).0 (a.gives t).1) (p + a.size + 1) ∷ [];
  gives = λ t. (a.gives t).1;
}

-- the members along a path, each in a slot of its own; `[]` has none
abbrev pub member_at : ℕ → Option PlainKeyRef → PlainSource
member_at x None = literal_source null
member_at x (Some k) = member_source x k

-- from point p and slot t on: the member at the first key, then in that member the one at the second, and so on, a point and a slot each
unfoldable pub members_along : ℕ → List (Option PlainKeyRef) → ℕ → ℕ → List PlainPoint
members_along x [] p t = []
members_along x (k ∷ ks) p t = set_point t (member_at x k) (p + 1) ∷ members_along t ks (p + 1) (t + 1)

-- the old value of a variable at the end of a path of so many keys, behind the path
abbrev pub old_value : ℕ → ℕ → Code (List (Option PlainKeyRef)) → Code (List (Option PlainKeyRef) × ℕ)
old_value x keys path = record {
  size = path.size + 1 + keys;
  slots = path.slots + 1 + keys;
  points = λ p t. path.points p t ++ set_point (t + path.slots) (copy_source x) (p + path.size + 1)
      ∷ members_along (t + path.slots) (path.gives t) (p + path.size + 1) (t + path.slots + 1);
  gives = λ t. (path.gives t, t + path.slots + keys);
}

-- the old value and the right side of `.= += -= *= %=`
unfoldable pub updating : UpdateSign → ℕ → ℕ → PlainSource
updating update.Join old right = concat_source (old ∷ right ∷ [])
updating update.Add old right = number_source (work.Arith Add) (old ∷ right ∷ [])
updating update.Sub old right = number_source (work.Arith Sub) (old ∷ right ∷ [])
updating update.Mul old right = number_source (work.Arith Mul) (old ∷ right ∷ [])
updating update.Rem old right = number_source (work.Arith Rem) (old ∷ right ∷ [])
updating update.Coalesce old right = copy_source right

-- `$x[k] .= e`: the path, the old value, the right side, the new value, and its write
abbrev pub updated_at : UpdateSign → ℕ → Code (List (Option PlainKeyRef) × ℕ) → Code ℕ → Code ℕ
updated_at sign x old right =
    let parts : Code ((List (Option PlainKeyRef) × ℕ) × ℕ) = both old right (λ a b. (a, b)) in
    stored x (record {
      size = parts.size + 1;
      slots = parts.slots + 1;
      points = λ p t. parts.points p t
          ++ set_point (t + parts.slots) (updating sign ((parts.gives t).0).1 (parts.gives t).1) (p + parts.size + 1) ∷ [];
      gives = λ t. (((parts.gives t).0).0, t + parts.slots);
    })

-- `$x[k] ??= e`: as `??`, with a write where the right side is evaluated
abbrev pub filled : ℕ → Code (List (Option PlainKeyRef) × ℕ) → Code ℕ → Code ℕ
filled x a b = record {
  size = a.size + 3 + b.size + 2;
  slots = a.slots + 1 + b.slots + 1;
  points = λ p t.
      let old = (a.gives t).1 in
      let test = t + a.slots in
      let left = p + a.size + 1 + 1 in
      let copied = left + 1 + b.size in
      let result = test + 1 + b.slots in
      a.points p t ++ (set_point test (truth_source work.NotNull (old ∷ [])) (p + a.size + 1) ∷ branch_point test left (left + 1)
      ∷ set_point result (copy_source old) (copied + 1 + 1) ∷ b.points (left + 1) (test + 1)
      ++ (set_point result (copy_source (b.gives (test + 1))) (copied + 1) ∷ set_point x (written x (a.gives t).0 result) (copied + 1 + 1)
      ∷ []));
  gives = λ t. t + a.slots + 1 + b.slots;
}

-- an assignment with an operator: `??=` writes only where the old value is null, and the other signs always
unfoldable pub update_code : UpdateSign → ℕ → Code (List (Option PlainKeyRef) × ℕ) → Code ℕ → Code ℕ
unfolding updating members_along
update_code update.Coalesce x old right = filled x old right
update_code sign x old right = updated_at sign x old right

-- the change by one: up for `++`, down for `--`
abbrev pub step_work : Bool → Work
step_work true = work.Up
step_work false = work.Down

-- `++$x` changes the variable and copies it, and `$x++` the other way round
unfoldable pub step_code : ℕ → Bool → Bool → Code ℕ
step_code x up true = record {
  size = 2;
  slots = 1;
  gives = λ t. t;
  points = λ p t. set_point x (number_source (step_work up) (x ∷ [])) (p + 1) ∷ set_point t (copy_source x) (p + 2) ∷ [];
}
step_code x up false = record {
  size = 2;
  slots = 1;
  gives = λ t. t;
  points = λ p t. set_point t (copy_source x) (p + 1) ∷ set_point x (number_source (step_work up) (x ∷ [])) (p + 2) ∷ [];
}

-- a default, which is a literal
unfoldable pub default_code : MaybeExpr → Code ℕ
unfolding literal_value
default_code no_expr = literal null
default_code (some_expr (neg_expr (int_expr z))) = of_one work.Neg number_source (literal (int z))
default_code (some_expr e) = literal (literal_value e)

-- the defaults of these parameters, in their order; null for a parameter without one
unfoldable pub default_codes : List PlainParam → Code (List ℕ)
unfolding default_code
default_codes [] = known []
default_codes (p ∷ ps) = both (default_code p.default_of) (default_codes ps) (λ x xs. x ∷ xs)

-- a call of a function of the script: one value for each of its parameters, those of the arguments first
abbrev pub called : ℕ → ℕ → Code (List ℕ) → Code (List ℕ) → Code ℕ
called function params args defaults =
    let values : Code (List ℕ) = both args defaults (λ xs ys. take params xs ++ ys) in
    record {
      size = values.size + 1;
      slots = values.slots + 1;
      points = λ p t. values.points p t ++ call_point (t + values.slots) function (values.gives t) (p + values.size + 1) ∷ [];
      gives = λ t. t + values.slots;
    }

-- a call of a function of the script, with so many arguments: parameters beyond them have their defaults; null where none has the name
unfoldable pub call_own : Option (ℕ × PlainFunction) → ℕ → Code (List ℕ) → Code ℕ
unfolding default_codes
call_own None number args = computed args (λ xs. literal_source null)
call_own (Some found) number args = called found.0 (length (found.1).params_of) args (default_codes (drop number (found.1).params_of))

-- how many expressions there are
unfoldable pub number_of : PlainExprs → ℕ
number_of no_exprs = 0
number_of (more_exprs e es) = suc (number_of es)

-- a call by what its name stands for: one of PHP's functions where it is the name of one, and else a function of the script
unfoldable pub call_code : Option Builtin → Option (ℕ × PlainFunction) → PlainExprs → Code (List ℕ) → Code ℕ
unfolding builtin_source call_own number_of
call_code (Some f) own trees args = computed args (builtin_source f trees)
call_code None own trees args = call_own own (number_of trees) args

-- how many keys a path has, each `[]` counted
unfoldable pub length_of_path : PlainPath → ℕ
length_of_path no_keys = 0
length_of_path (more_keys k ks) = suc (length_of_path ks)

-- an integer or a text that stands as a key has no point of its own
unfoldable pub key_code : PlainExpr → Code ℕ → Code PlainKeyRef
key_code (int_expr z) a = known (int_ref z)
key_code (text_expr t) a = known (text_ref t)
key_code e a = left a read_ref

-- texts joined; a part that stands alone is joined with the empty text, so that a text that is too long faults here as well
unfoldable pub join_code : PlainExprs → Code (List ℕ) → Code ℕ
join_code (more_exprs e no_exprs) parts = computed (both parts (literal (text [])) (λ xs x. xs ++ x ∷ [])) concat_source
join_code _ parts = computed parts concat_source

-- the slot of an array that is put together, and its items so far
abbrev pub Begun : Type 0
Begun = ℕ × List (Option PlainKeyRef × ℕ)

-- the items of an array that is put together
abbrev pub the_items : Begun → List (Option PlainKeyRef × ℕ)
the_items begun = begun.1

-- an array without items
abbrev pub no_item : Code Begun
no_item = left (from_source (array_source [])) (λ x. (x, []))

-- one more item, put behind the others into a fresh slot, so that a key that is none, a full array and one that is too deep fault before
-- the next item is evaluated
abbrev pub one_item : Code Begun → Code (Option PlainKeyRef × ℕ) → Code Begun
one_item begun item =
    let parts : Code (Begun × (Option PlainKeyRef × ℕ)) = both begun item (λ made one. (made, one)) in
    computed_with parts (λ two. put_source (two.0).0 ((two.1).0 ∷ []) (two.1).1) (λ two x. (x, (two.0).1 ++ two.1 ∷ []))

unfoldable mutual
  unfolding key_code variable call_code update_code step_code function_in length_of_path join_code

  -- the points of an expression, which leave its value in a slot
  pub code : Scope → PlainExpr → Code ℕ
  code w null_expr = literal null
  code w (flag_expr b) = literal (flag b)
  code w (int_expr z) = literal (int z)
  code w (text_expr t) = literal (text t)
  code w (var_expr x) = from_source (copy_source (variable w x))
  code w (super_expr name) = from_source (super_source name)
  code w (member_expr a k) = computed (both (code w a) (key_code k (code w k)) (λ x key. member_source x key)) (λ source. source)
  -- the items one by one, and then the array of them all
  code w (array_expr items) = computed (left (items_code w items no_item) the_items) array_source
  code w (join_expr parts) = join_code parts (codes w parts)
  code w (neg_expr a) = of_one work.Neg number_source (code w a)
  code w (not_expr a) = of_one work.Not truth_source (code w a)
  code w (arith_expr sign a b) = of_two (work.Arith sign) number_source (code w a) (code w b)
  code w (compare_expr sign a b) = of_two (work.Compare sign) truth_source (code w a) (code w b)
  code w (and_expr a b) = both_true (code w a) (code w b)
  code w (or_expr a b) = one_true (code w a) (code w b)
  code w (coalesce_expr a b) = first_there (code w a) (code w b)
  code w (choice_expr c no_expr b) = chosen_itself (code w c) (code w b)
  code w (choice_expr c (some_expr a) b) = chosen (code w c) (code w a) (code w b)
  code w (isset_expr parts) = computed (codes w parts) (truth_source work.Isset)
  code w (empty_expr a) = of_one work.Empty truth_source (code w a)
  code w (assign_expr x path e) = stored (variable w x) (both (path_code w path) (code w e) (λ keys v. (keys, v)))
  code w (update_expr sign x path e) =
      update_code sign (variable w x) (old_value (variable w x) (length_of_path path) (path_code w path)) (code w e)
  code w (step_expr x up before) = step_code (variable w x) up before
  code w (call_expr name args) = call_code (builtin_named name) (function_in 1 w.functions name) args (codes w args)

  -- the points of expressions from the left to the right, and the slots of their values in the same order
  pub codes : Scope → PlainExprs → Code (List ℕ)
  codes w no_exprs = known []
  codes w (more_exprs e es) = both (code w e) (codes w es) (λ x xs. x ∷ xs)

  -- the points of a key that may be left out
  pub maybe_key : Scope → MaybeExpr → Code (Option PlainKeyRef)
  maybe_key w no_expr = known None
  maybe_key w (some_expr e) = left (key_code e (code w e)) Some

  -- the points of the keys of a target from the left to the right, and the keys
  pub path_code : Scope → PlainPath → Code (List (Option PlainKeyRef))
  path_code w no_keys = known []
  path_code w (more_keys k ks) = both (maybe_key w k) (path_code w ks) (λ first rest. first ∷ rest)

  -- the points of the items of an array literal behind those so far, a key before its value
  pub items_code : Scope → PlainItems → Code Begun → Code Begun
  items_code w no_items begun = begun
  items_code w (more_items k e is) begun = items_code w is (one_item begun (both (maybe_key w k) (code w e) (λ key x. (key, x))))
