-- Which definitions of a slot reach a point (reaching definitions: Aho, Sethi and Ullman, Compilers, 10.5). Every point that sets a slot
-- defines it, and the entry of a function defines all slots of the function: its parameters by the arguments, and the others as null.
use Rattle.std.specs.Prelude.{◌≡◌, ◌≢◌, ℕ, Some, Contains}
use Rattle.flow_code.specs.Points.{PlainPoint, PlainFlowFunction, PlainFlow, point_at, function_at}
use Rattle.flow_code.specs.Lawful.{sets, nexts, IsOwnSlot}

-- a definition: a point, or the entry of a function with one of its slots
pub data Definition : Type 0 where
  at_point : ℕ → Definition
  at_entry : ℕ → ℕ → Definition

-- some way leads from the definition of the slot to the point, and no point between sets the slot again
pub data Reaches (flow : PlainFlow) : Definition → ℕ → ℕ → Type 0 where
  behind : (d x p : ℕ) (i : PlainPoint) → point_at flow d ≡ Some i → sets i ≡ Some x → Contains (nexts i) p → Reaches flow (at_point d) x p
  entered : (f x : ℕ) (g : PlainFlowFunction) → function_at flow f ≡ Some g → IsOwnSlot g x → Reaches flow (at_entry f x) x g.entry_of
  onward : (d : Definition) (x p q : ℕ) (i : PlainPoint) → Reaches flow d x p → point_at flow p ≡ Some i → sets i ≢ Some x
      → Contains (nexts i) q → Reaches flow d x q
