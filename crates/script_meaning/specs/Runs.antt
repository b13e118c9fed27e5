-- What a part of a run has come to: a result and the state after it, or the end of the whole run.
use Rattle.std.specs.Prelude.{ℕ, zero, suc, if◌then◌else◌, List, [], ◌∷◌, ◌++◌, Result, Ok, Err, nat_eq}
use Rattle.std.specs.Cmp.Lexicographic.{pointwise}
use Rattle.plain_values.specs.Plain.{Plain, null}
use Rattle.plain_values.specs.declared.fault.Fault.{Fault}

-- the variables of a function's call, or of the script outside functions, by their names
abbrev pub Variables : Type 0
Variables = List (List ℕ × Plain)

-- the value of a variable; one that was never written is null
abbrev pub value_in : Variables → List ℕ → Plain
value_in [] x = null
value_in (v ∷ vs) x = if pointwise nat_eq v.0 x then v.1 else value_in vs x

-- the variables after a write of one of them
abbrev pub set_in : Variables → List ℕ → Plain → Variables
set_in [] x new = (x, new) ∷ []
set_in (v ∷ vs) x new = if pointwise nat_eq v.0 x then (x, new) ∷ vs else v ∷ set_in vs x new

-- the units that are left, the variables that are seen, and the bytes printed so far
pub record State : Type 0 where
  pub left : ℕ
  pub variables : Variables
  pub printed : List ℕ

-- how a run ends: at the end of the script or at `exit`, by a fault, where no unit is left, or where a call would be the 257th open one
pub data End : Type 0 where
  Ended : End
  Faulted : Fault → End
  Spent : End
  Deep : End

-- a result with the state after it, or the end of the run with all that it printed
pub data Run (A : Type 0) : Type 0 where
  Going : A → State → Run A
  Over : End → List ℕ → Run A

-- goes on after a result; a run that is over stays so
unfoldable pub ◌then_do◌ : {A B : Type 0} → Run A → (A → State → Run B) → Run B
(Going x s) then_do go = go x s
(Over end printed) then_do go = Over end printed

infixl 10 ◌then_do◌
-- a result of an operation on values, or its fault, which ends the run
unfoldable pub result_of : {A : Type 0} → Result A Fault → State → Run A
result_of (Ok x) s = Going x s
result_of (Err fault) s = Over (Faulted fault) s.printed

-- goes on with one unit less, where so many are left; the run is over where none is
unfoldable pub unit_at : {A : Type 0} → ℕ → State → (State → Run A) → Run A
unit_at zero s go = Over Spent s.printed
unit_at (suc n) s go = go (record s { left = n })

-- takes a unit, where one is left
abbrev pub with_unit : {A : Type 0} → State → (State → Run A) → Run A
with_unit s go = unit_at s.left s go

-- the state after a variable was written
abbrev pub with_variable : State → List ℕ → Plain → State
with_variable s x new = record s { variables = set_in s.variables x new }

-- the state after bytes were printed
abbrev pub printing : List ℕ → State → State
printing bytes s = record s { printed = s.printed ++ bytes }
