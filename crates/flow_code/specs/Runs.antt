-- What a run of points does: it follows the points with values in slots, and ends where the first function returns or at a `Quit`.
use Rattle.std.specs.Prelude.{◌≡◌, ℕ, suc, true, false, not, if◌then◌else◌, List, [], ◌∷◌, ◌++◌, Option, Some, None, map, nat_eq, Result, Ok, Err}
use Rattle.std.specs.List.{list_all}
use Rattle.text_base.specs.declared.limits.TheConstants.{CALL_LIMIT}
use Rattle.plain_values.specs.Plain.{Plain, PlainKey, Pairs, null, flag, int, text, array, empty, pair}
use Rattle.plain_values.specs.Text.{text_of, truth}
use Rattle.plain_values.specs.Arithmetic.{negation_of}
use Rattle.plain_values.specs.Joins.{join_of}
use Rattle.plain_values.specs.Outcome.{go_on}
use Rattle.plain_values.specs.Paths.{subscript_of, literal_of}
use Rattle.plain_values.specs.Walks.{is_null, walked, value_of_key}
use Rattle.plain_values.specs.declared.fault.Fault.{Fault}
use Rattle.plain_values.specs.declared.fault.Fault.TheVariants.{WrongType}
use Rattle.builtin_meaning.specs.Values.{builtin_value}
use Rattle.op_system.specs.declared.op.Op.{Op}
use Rattle.op_system.specs.declared.op.Op.TheVariants as op
use Rattle.script_meaning.specs.Requests.{PlainRequest, request_array}
use Rattle.script_meaning.specs.Expressions.{arithmetic, comparison, stepped, assigned}
use Rattle.flow_code.specs.declared.source.Work.{Work}
use Rattle.flow_code.specs.declared.source.Work.TheVariants as work
use Rattle.flow_code.specs.Points.{PlainKeyRef, int_ref, text_ref, read_ref, PlainSource, literal_source, copy_source, super_source, member_source, array_source, put_source, concat_source, repeat_source, implode_source, explode_source, apply_source, number_source, truth_source, set_point, call_point, print_point, echo_point, branch_point, jump_point, begin_point, next_point, key_point, value_point, return_point, quit_point, PlainFlowFunction, PlainFlow, point_at, function_at}

-- the value of each slot, by its number
abbrev pub Slots : Type 0
Slots = ℕ → Plain

-- a walk over the members of an array: the member where it stands, once it was moved to one, and the members that follow
pub record Walk : Type 0 where
  pub now : Option (PlainKey × Plain)
  pub rest : Pairs

-- a slot that holds no walk
abbrev pub no_walk : Walk
no_walk = record { now = None; rest = empty }

-- the values of the slots of an open call, and the walks that they hold
pub record Frame : Type 0 where
  pub slots : Slots
  pub walks : ℕ → Walk

-- a slot set to a value; a walk that it held is over
unfoldable pub set_slot : Frame → ℕ → Plain → Frame
set_slot f x v = record { slots = λ y. if nat_eq y x then v else f.slots y; walks = λ y. if nat_eq y x then no_walk else f.walks y }

-- a slot set to a walk; its value and every other slot stay
unfoldable pub set_walk : Frame → ℕ → Walk → Frame
set_walk f x walk = record f { walks = λ y. if nat_eq y x then walk else f.walks y }

-- the value of a key: an integer or a text of the script itself, or what its slot holds
unfoldable pub key_value : Slots → PlainKeyRef → Plain
key_value f (int_ref z) = int z
key_value f (text_ref t) = text t
key_value f (read_ref x) = f x

-- the value of a key, if one is written; None for `[]` and for an array item without a key
abbrev pub maybe_key_value : Slots → Option PlainKeyRef → Option Plain
maybe_key_value f None = None
maybe_key_value f (Some k) = Some (key_value f k)

-- an array item with its values: that of its key, if it has one, and then its own
abbrev pub item_value : Slots → (Option PlainKeyRef × ℕ) → (Option Plain × Plain)
item_value f item = (maybe_key_value f item.0, f item.1)

-- the text form of one value, which is as long as the value itself; of several, joined
unfoldable pub concatenated : List Plain → Result Plain Fault
concatenated (v ∷ []) = Ok (text (text_of v))
concatenated vs = join_of vs

-- the result of an operation; with another number of values than it takes no program has it
unfoldable pub worked : Work → List Plain → Result Plain Fault
unfolding arithmetic comparison stepped
worked (work.Arith sign) (a ∷ b ∷ []) = arithmetic sign a b
worked (work.Compare sign) (a ∷ b ∷ []) = go_on (comparison sign a b) (λ answer. Ok (flag answer))
worked work.Neg (a ∷ []) = negation_of a
worked work.Up (a ∷ []) = stepped true a
worked work.Down (a ∷ []) = stepped false a
worked work.Not (a ∷ []) = Ok (flag (not (truth a)))
worked work.Isset vs = Ok (flag (list_all (λ v. not (is_null v)) vs))
worked work.Empty (a ∷ []) = Ok (flag (not (truth a)))
worked work.NotNull (a ∷ []) = Ok (flag (not (is_null a)))
worked work.AsTruth (a ∷ []) = Ok (flag (truth a))
worked (work.Builtin f) vs = builtin_value f vs
worked _ vs = Err WrongType

-- the arguments of an operation: those that it names stand in the script as literals, and are what it names
unfoldable pub given : Op → List Plain → List Plain
given (op.Replace search with) (a ∷ b ∷ c ∷ []) = text search ∷ text with ∷ c ∷ []
given op.Same (a ∷ b ∷ c ∷ []) = text [] ∷ b ∷ c ∷ []
given (op.Cut start None) (a ∷ b ∷ []) = a ∷ int start ∷ []
given (op.Cut start (Some len)) (a ∷ b ∷ c ∷ []) = a ∷ int start ∷ int len ∷ []
given (op.Piece sep) (a ∷ b ∷ []) = text sep ∷ b ∷ []
given _ args = args

-- the value that a source has, or the fault that it meets
unfoldable pub source_value : PlainRequest → Slots → PlainSource → Result Plain Fault
unfolding request_array key_value assigned concatenated worked given
source_value r f (literal_source v) = Ok v
source_value r f (copy_source x) = Ok (f x)
source_value r f (super_source name) = Ok (array (request_array r name))
source_value r f (member_source x k) = subscript_of (f x) (key_value f k)
source_value r f (array_source items) = literal_of (map (item_value f) items)
source_value r f (put_source x path v) = assigned (map (maybe_key_value f) path) (f v) (f x)
source_value r f (concat_source xs) = concatenated (map f xs)
source_value r f (repeat_source from builtin args) = builtin_value builtin (map f args)
source_value r f (implode_source sep from builtin args) = builtin_value builtin (map f args)
source_value r f (explode_source operation from builtin args) = builtin_value builtin (given operation (map f args))
source_value r f (apply_source operation from builtin args) = builtin_value builtin (given operation (map f args))
source_value r f (number_source sign args) = worked sign (map f args)
source_value r f (truth_source sign args) = worked sign (map f args)

-- the slots that a call begins with: those of the parameters have the arguments, and all others null
unfoldable pub arguments_in : List ℕ → List Plain → Slots
arguments_in (x ∷ xs) (v ∷ vs) y = if nat_eq y x then v else arguments_in xs vs y
arguments_in _ vs y = null

-- a frame without a walk
unfoldable pub fresh : Slots → Frame
fresh slots = record { slots = slots; walks = λ x. no_walk }

-- how a run of a function ends: with its result, or at a `Quit`, which ends the whole run
pub data FlowEnd : Type 0 where
  -- the function gives this value back
  returned : Plain → FlowEnd
  -- the whole run ends
  exited : FlowEnd

-- where so many more calls may be open: a run from this point, with these slots, up to the function's end prints these bytes and ends so
pub data RunsFrom (flow : PlainFlow) (r : PlainRequest) : ℕ → ℕ → Frame → List ℕ → FlowEnd → Type 0 where
  -- the slot gets the value of the source
  set : (room p x next : ℕ) (source : PlainSource) (f : Frame) (v : Plain) (w : List ℕ) (end : FlowEnd)
      → point_at flow p ≡ Some (set_point x source next) → source_value r f.slots source ≡ Ok v
      → RunsFrom flow r room next (set_slot f x v) w end → RunsFrom flow r room p f w end
  -- a call returns, and the run goes on
  call : (room p x n next : ℕ) (args : List ℕ) (g : PlainFlowFunction) (f : Frame) (v : Plain) (u w : List ℕ) (end : FlowEnd)
      → point_at flow p ≡ Some (call_point x n args next) → function_at flow n ≡ Some g
      → RunsFrom flow r room g.entry_of (fresh (arguments_in g.params_of (map f.slots args))) u (returned v)
      → RunsFrom flow r (suc room) next (set_slot f x v) w end → RunsFrom flow r (suc room) p f (u ++ w) end
  -- the run ends in the call
  call_exits : (room p x n next : ℕ) (args : List ℕ) (g : PlainFlowFunction) (f : Frame) (w : List ℕ)
      → point_at flow p ≡ Some (call_point x n args next) → function_at flow n ≡ Some g
      → RunsFrom flow r room g.entry_of (fresh (arguments_in g.params_of (map f.slots args))) w exited
      → RunsFrom flow r (suc room) p f w exited
  -- bytes outside PHP are printed
  print : (room p next : ℕ) (bytes : List ℕ) (f : Frame) (w : List ℕ) (end : FlowEnd)
      → point_at flow p ≡ Some (print_point bytes next) → RunsFrom flow r room next f w end → RunsFrom flow r room p f (bytes ++ w) end
  -- the text form of a value is printed
  echo : (room p x next : ℕ) (f : Frame) (w : List ℕ) (end : FlowEnd)
      → point_at flow p ≡ Some (echo_point x next) → RunsFrom flow r room next f w end
      → RunsFrom flow r room p f (text_of (f.slots x) ++ w) end
  -- by the truth of a value to one of two points
  branch : (room p x a b : ℕ) (f : Frame) (w : List ℕ) (end : FlowEnd)
      → point_at flow p ≡ Some (branch_point x a b)
      → RunsFrom flow r room (if truth (f.slots x) then a else b) f w end → RunsFrom flow r room p f w end
  -- to another point
  jump : (room p next : ℕ) (f : Frame) (w : List ℕ) (end : FlowEnd)
      → point_at flow p ≡ Some (jump_point next) → RunsFrom flow r room next f w end → RunsFrom flow r room p f w end
  -- the walk is of the value as it is now, whatever is written later
  each_begin : (room p x from next : ℕ) (f : Frame) (w : List ℕ) (end : FlowEnd)
      → point_at flow p ≡ Some (begin_point x from next)
      → RunsFrom flow r room next (set_walk (set_slot f x (f.slots from)) x (record { now = None; rest = walked (f.slots from) })) w end
      → RunsFrom flow r room p f w end
  -- the walk moves to the next member, and the body is run
  each_more : (room p x more done : ℕ) (k : PlainKey) (v : Plain) (rest : Pairs) (f : Frame) (w : List ℕ) (end : FlowEnd)
      → point_at flow p ≡ Some (next_point x more done) → (f.walks x).rest ≡ pair k v rest
      → RunsFrom flow r room more (set_walk f x (record { now = Some (k, v); rest = rest })) w end → RunsFrom flow r room p f w end
  -- the walk has no member left, and the loop is left
  each_done : (room p x more done : ℕ) (f : Frame) (w : List ℕ) (end : FlowEnd)
      → point_at flow p ≡ Some (next_point x more done) → (f.walks x).rest ≡ empty
      → RunsFrom flow r room done f w end → RunsFrom flow r room p f w end
  -- the key of the member where the walk stands
  key_of : (room p x from next : ℕ) (k : PlainKey) (v : Plain) (f : Frame) (w : List ℕ) (end : FlowEnd)
      → point_at flow p ≡ Some (key_point x from next) → (f.walks from).now ≡ Some (k, v)
      → RunsFrom flow r room next (set_slot f x (value_of_key k)) w end → RunsFrom flow r room p f w end
  -- the value of that member
  value_of : (room p x from next : ℕ) (k : PlainKey) (v : Plain) (f : Frame) (w : List ℕ) (end : FlowEnd)
      → point_at flow p ≡ Some (value_point x from next) → (f.walks from).now ≡ Some (k, v)
      → RunsFrom flow r room next (set_slot f x v) w end → RunsFrom flow r room p f w end
  -- the function returns, and prints nothing more
  return : (room p x : ℕ) (f : Frame) → point_at flow p ≡ Some (return_point x) → RunsFrom flow r room p f [] (returned (f.slots x))
  -- the run ends, and prints nothing more
  quit : (room p : ℕ) (f : Frame) → point_at flow p ≡ Some (quit_point None) → RunsFrom flow r room p f [] exited
  -- a `Quit` prints a text alone
  quit_with : (room p x : ℕ) (f : Frame) (t : List ℕ)
      → point_at flow p ≡ Some (quit_point (Some x)) → f.slots x ≡ text t → RunsFrom flow r room p f t exited

-- the first function is entered with all slots null, and only so many calls may be open at once; the run ends and prints these bytes
pub record FlatRun (flow : PlainFlow) (r : PlainRequest) (printed : List ℕ) : Type 0 where
  pub main : PlainFlowFunction
  pub is_main : function_at flow 0 ≡ Some main
  pub end : FlowEnd
  pub runs : RunsFrom flow r CALL_LIMIT main.entry_of (fresh (λ x. null)) printed end
