-- Points as plain data, in which slots, points and functions are numbers. Every other definition of this crate speaks of them.
use Rattle.std.specs.Prelude.{ℕ, ℤ, List, [], ◌∷◌, ◌++◌, Option, slice_get}
use Rattle.php_syntax.specs.declared.tree.SuperName.{SuperName}
use Rattle.plain_values.specs.Plain.{Plain}
use Rattle.builtin_meaning.specs.declared.builtin.Builtin.{Builtin}
use Rattle.op_system.specs.declared.op.Op.{Op}
use Rattle.flow_code.specs.declared.source.Work.{Work}

-- a key: an integer or a text that stands in the script, or the value of a slot
pub data PlainKeyRef : Type 0 where
  int_ref : ℤ → PlainKeyRef
  text_ref : List ℕ → PlainKeyRef
  read_ref : ℕ → PlainKeyRef

-- what a slot is set to
pub data PlainSource : Type 0 where
  literal_source : Plain → PlainSource
  copy_source : ℕ → PlainSource
  super_source : SuperName → PlainSource
  -- the array and the key
  member_source : ℕ → PlainKeyRef → PlainSource
  -- for each item its key, where one is written, and its value
  array_source : List (Option PlainKeyRef × ℕ) → PlainSource
  -- the old value, the path, and what is written at its end
  put_source : ℕ → List (Option PlainKeyRef) → ℕ → PlainSource
  concat_source : List ℕ → PlainSource
  -- the text, the function and its arguments
  repeat_source : ℕ → Builtin → List ℕ → PlainSource
  -- the separator, the array, the function and its arguments
  implode_source : ℕ → ℕ → Builtin → List ℕ → PlainSource
  -- the operation, the text, the function and its arguments
  explode_source : Op → ℕ → Builtin → List ℕ → PlainSource
  apply_source : Op → ℕ → Builtin → List ℕ → PlainSource
  number_source : Work → List ℕ → PlainSource
  truth_source : Work → List ℕ → PlainSource

-- a point; where it goes on stands last
pub data PlainPoint : Type 0 where
  set_point : ℕ → PlainSource → ℕ → PlainPoint
  -- the slot of the result, the function, and the slots of its arguments
  call_point : ℕ → ℕ → List ℕ → ℕ → PlainPoint
  print_point : List ℕ → ℕ → PlainPoint
  echo_point : ℕ → ℕ → PlainPoint
  -- where it goes on if the slot's value is true, and where else
  branch_point : ℕ → ℕ → ℕ → PlainPoint
  jump_point : ℕ → PlainPoint
  -- the slot of the walk, and the slot that is walked
  begin_point : ℕ → ℕ → ℕ → PlainPoint
  -- where it goes on with one more member, and where without
  next_point : ℕ → ℕ → ℕ → PlainPoint
  -- the slot that is set, and the slot of the walk
  key_point : ℕ → ℕ → ℕ → PlainPoint
  value_point : ℕ → ℕ → ℕ → PlainPoint
  return_point : ℕ → PlainPoint
  quit_point : Option ℕ → PlainPoint

-- a function: where it begins, the slots of its parameters, its first slot and how many it has, its first point, and its points
pub record PlainFlowFunction : Type 0 where
  pub entry_of : ℕ
  pub params_of : List ℕ
  pub first_slot_of : ℕ
  pub slots_of : ℕ
  pub first_point_of : ℕ
  pub points_of : List PlainPoint

-- a program; the first function holds the statements outside functions
pub record PlainFlow : Type 0 where
  pub functions_of : List PlainFlowFunction

-- the points of all functions, which stand in a row by their numbers
unfoldable pub points_in : List PlainFlowFunction → List PlainPoint
points_in [] = []
points_in (f ∷ fs) = f.points_of ++ points_in fs

-- the point of a number
unfoldable pub point_at : PlainFlow → ℕ → Option PlainPoint
unfolding points_in
point_at flow p = slice_get (points_in flow.functions_of) p

-- the function of a number
abbrev pub function_at : PlainFlow → ℕ → Option PlainFlowFunction
function_at flow f = slice_get flow.functions_of f
