-- The derivatives of an expression as numbered states.
use Rattle.std.specs.Prelude.{◌≡◌, ◌<◌, ◌≤◌, ℕ, List, length, All, Contains, Some, slice_get}
use Rattle.numbered_sets.specs.Numbers.{Keeps, AreDifferent}
use Rattle.derivatives.specs.Expressions.{Expr}
use Rattle.derivatives.specs.Derivatives.{may_end, after, after_all}
use Rattle.derivatives.specs.Standing.{expr_at, IsExpr, IsMade}
use Rattle.derivatives.specs.declared.arena.Arena.{Arena}
use Rattle.policy_matching.specs.declared.refusal.StatesRefusal.{StatesRefusal}
use Rattle.policy_matching.specs.declared.refusal.StatesRefusal.TheVariants.{States, Memory}
use Rattle.policy_matching.specs.declared.refusal.TheConstants.{STATE_LIMIT}
use Rattle.policy_matching.specs.declared.rows.Run.{Run}
use Rattle.policy_matching.specs.declared.rows.Row.{Row}
use Rattle.policy_matching.specs.Rows.{run_of, state_behind, told, told_at}

-- the second is the derivative of the first by a text of bytes
abbrev pub IsBehind : Expr → Expr → Type 0
IsBehind e d = (text : List ℕ) × All (λ b. b < 256) text × (after_all text e ≡ d)

-- the expression has at least so many different derivatives by texts of bytes
abbrev pub HasDerivatives : Expr → ℕ → Type 0
HasDerivatives e count = (ds : List Expr) × AreDifferent ds × All (IsBehind e) ds × (count ≤ length ds)

-- why they are not listed: there are so many, over the limit; want of memory says nothing
abbrev pub IsStatesCause : Expr → StatesRefusal → Type 0
IsStatesCause e (States count) = (STATE_LIMIT < count) × HasDerivatives e count
IsStatesCause e Memory = Unit {0}

-- the state with the number has a place in the arena that stands for the expression
pub record StandsFor (arena : Arena) (places : List ℕ) (n : ℕ) (e : Expr) : Type 0 where
  pub place : ℕ
  pub placed : slice_get places n ≡ Some place
  pub made : IsMade arena place e

-- each state has an expression
abbrev pub AreExpressions : Arena → List ℕ → Type 0
AreExpressions arena places = (n place : ℕ) → slice_get places n ≡ Some place → IsExpr arena place

-- each state is a derivative of the expression
abbrev pub AreBehind : Expr → Arena → List ℕ → Type 0
AreBehind e arena places = (n place : ℕ) → slice_get places n ≡ Some place → IsExpr arena place × IsBehind e (expr_at arena place)

-- states are added that are reached from the one at the place: the old ones keep their numbers, and all are derivatives of what that one
-- and the old ones are derivatives of
pub record Reaches (before behind : Arena) (old new : List ℕ) (place : ℕ) : Type 0 where
  pub keeps : Keeps old new
  pub are : (e : Expr) → IsBehind e (expr_at before place) → AreBehind e before old → AreBehind e behind new

-- each byte below the number has a run, which leads to the derivative of the expression by it; and all runs end before that number
pub record AreRuns (arena : Arena) (places : List ℕ) (e : Expr) (end : ℕ) (runs : List Run) : Type 0 where
  pub before : (run : Run) → Contains runs run → run.last < end
  pub lead : (b : ℕ) → b < end → (run : Run) × (run_of b runs ≡ Some run) × StandsFor arena places run.to (after b e)

-- the row is that of the expression
pub record IsRow (arena : Arena) (places : List ℕ) (e : Expr) (row : Row) : Type 0 where
  pub ends : row.ends ≡ may_end e
  pub runs : AreRuns arena places e 256 row.runs.items

-- the first states have their rows
pub record AreRows (e : Expr) (arena : Arena) (places : List ℕ) (rows : List Row) : Type 0 where
  pub first : StandsFor arena places 0 e
  pub are : AreBehind e arena places
  pub few : length rows ≤ length places
  pub each : (n : ℕ) (row : Row) → slice_get rows n ≡ Some row → (d : Expr) × StandsFor arena places n d × IsRow arena places d row

-- by these rows the states are derivatives of the expression, each once, the first the expression itself: from each a byte leads to its
-- derivative by the byte, and a text may end where that matches the empty text
pub record IsOutside (e : Expr) (rows : List Row) : Type 0 where
  pub stands : ℕ → Expr
  pub some : 0 < length rows
  pub first : stands 0 ≡ e
  pub within : (s b : ℕ) → s < length rows → state_behind rows s b < length rows
  pub next : (s b : ℕ) → s < length rows → b < 256 → stands (state_behind rows s b) ≡ after b (stands s)
  pub ends : (s : ℕ) → s < length rows → told_at rows s ≡ told (may_end (stands s))
  pub one : (s t : ℕ) → s < length rows → t < length rows → stands s ≡ stands t → s ≡ t
