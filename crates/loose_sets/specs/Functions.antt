-- What is handed in for the parameters of functions, what they return, and the forms of these.
use Rattle.std.specs.Prelude.{◌≡◌, ◌↔◌, ◌-◌, ◌&&◌, not, ℕ, Bool, false, if◌then◌else◌, List, [], ◌∷◌, ◌++◌, Option, Some, None, Contains, map, flat_map, slice_get, nat_eq, nat_le, nat_lt}
use Rattle.std.specs.List.{list_any}
use Rattle.flow_code.specs.Points.{PlainFlowFunction, PlainFlow, call_point, return_point, points_in, point_at, function_at}
use Rattle.flow_graph.specs.Returned.{returned_pairs}
use Rattle.flow_graph.specs.Handed.{Handing, handings_from}
use Rattle.flow_code.specs.Lawful.{IsOwnSlot, IsOwnPoint}
use Rattle.least_sets.specs.Forms.{Form, text_form}
use Rattle.loose_sets.specs.declared.name.Aspect.{Aspect}
use Rattle.loose_sets.specs.declared.name.SetName.{SetName}
use Rattle.loose_sets.specs.Uses.{At, used, where_so}
use Rattle.loose_sets.specs.Arrays.{Forms}
use Rattle.loose_sets.specs.Sources.{texts_alone}

-- the argument that is handed in for a parameter
abbrev pub IsArgument : List ℕ → List ℕ → ℕ → ℕ → Type 0
IsArgument params args y x = (i : ℕ) × (slice_get params i ≡ Some y) × (slice_get args i ≡ Some x)

-- at the point a call hands this slot in for the parameter of the function
pub record IsHandedIn (flow : PlainFlow) (n y : ℕ) (p arg : ℕ) : Type 0 where
  pub slot : ℕ
  pub args : List ℕ
  pub next : ℕ
  pub function : PlainFlowFunction
  pub call : point_at flow p ≡ Some (call_point slot n args next)
  pub is : function_at flow n ≡ Some function
  pub argument : IsArgument function.params_of args y arg

-- the point returns this slot from the function
pub record IsReturned (flow : PlainFlow) (n : ℕ) (q y : ℕ) : Type 0 where
  pub function : PlainFlowFunction
  pub is : function_at flow n ≡ Some function
  pub inside : IsOwnPoint function q
  pub there : point_at flow q ≡ Some (return_point y)

-- the slot is one of the function's own, and no parameter
pub record IsNullSlot (flow : PlainFlow) (n y : ℕ) : Type 0 where
  pub function : PlainFlowFunction
  pub is : function_at flow n ≡ Some function
  pub inside : IsOwnSlot function y
  pub no_parameter : Contains function.params_of y → ⊥

-- exactly these pairs of a point and a slot
abbrev pub ArePairs : (ℕ → ℕ → Type 0) → List (ℕ × ℕ) → Type 0
ArePairs P pairs = (p x : ℕ) → Contains pairs (p, x) ↔ P p x

-- what a function returns: each point of it that returns, with the slot; nothing where there is no function
abbrev pub returned_of : PlainFlow → Option PlainFlowFunction → List (ℕ × ℕ)
returned_of flow None = []
returned_of flow (Some g) = returned_pairs (points_in flow.functions_of) g

-- the same of the function of a number
unfoldable pub returned_by : PlainFlow → ℕ → List (ℕ × ℕ)
unfolding points_in
returned_by flow n = returned_of flow (function_at flow n)

-- the call and the argument, where it is for this parameter of this function
abbrev pub handed_for : ℕ → ℕ → Handing → List (ℕ × ℕ)
handed_for n y h = if nat_eq h.0.0 n && nat_eq h.0.1 y then h.1 ∷ [] else []

-- what calls hand in for a parameter of a function: the point of each call, with the slot of the argument
unfoldable pub handed_to : PlainFlow → ℕ → ℕ → List (ℕ × ℕ)
unfolding points_in handings_from
handed_to flow n y = flat_map (handed_for n y) (handings_from flow.functions_of 0 (points_in flow.functions_of))

-- the slot is one of the function's own
abbrev pub owns : PlainFlowFunction → ℕ → Bool
owns g y = nat_le g.first_slot_of y && nat_lt (y - g.first_slot_of) g.slots_of

-- whether the slot is one of the function's own, if there is the function
abbrev pub is_owned : Option PlainFlowFunction → ℕ → Bool
is_owned None y = false
is_owned (Some g) y = owns g y

-- whether it is, and no parameter
abbrev pub is_null_of : Option PlainFlowFunction → ℕ → Bool
is_null_of None y = false
is_null_of (Some g) y = owns g y && not (list_any (nat_eq y) g.params_of)

-- whether the slot is null where the function of a number is entered
unfoldable pub is_null_slot : PlainFlow → ℕ → ℕ → Bool
is_null_slot flow n y = is_null_of (function_at flow n) y

-- the values of slots at points
abbrev pub used_pair : At → Aspect → (ℕ × ℕ) → Form SetName
used_pair at b pair = used at pair.0 b pair.1

-- the values of slots at points, one form for each pair
abbrev pub used_pairs : At → List (ℕ × ℕ) → Aspect → Forms
used_pairs at pairs b = map (used_pair at b) pairs

-- of a slot at the entry of a function: what is handed in for it, and null where it is no parameter
abbrev pub entry_forms : At → List (ℕ × ℕ) → Bool → Aspect → Forms
entry_forms at pairs is_null b = used_pairs at pairs b ++ where_so is_null (texts_alone (text_form [] ∷ []) b)
