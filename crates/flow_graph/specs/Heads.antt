-- Points in a row that is entered at its first point alone.
use Rattle.std.specs.Prelude.{◌≡◌, ◌≢◌, ◌≤◌, ℕ, suc, List, [], ◌∷◌, Some, Contains, slice_get}
use Rattle.flow_graph.specs.declared.arrivals.Arrival.{Arrival}
use Rattle.flow_graph.specs.declared.arrivals.Arrival.TheVariants.{Edge}
use Rattle.flow_graph.specs.Steps.{PlainStep}

-- whatever leads to the point is an edge from the other one
abbrev pub ComesFrom : List (ℕ × Arrival) → ℕ → ℕ → Type 0
ComesFrom all p q = (a : Arrival) → Contains all (p, a) → a ≡ Edge q

-- so far as it stands at these places
abbrev pub ComesFromAt : List (ℕ × Arrival) → List ℕ → ℕ → Type 0
ComesFromAt all places q = (i : ℕ) → Contains places i → (p : ℕ) (a : Arrival) → slice_get all i ≡ Some (p, a) → a ≡ Edge q

-- the point before goes on there alone, and nothing else leads there
pub record GoesOn (steps : List PlainStep) (all : List (ℕ × Arrival)) (p : ℕ) : Type 0 where
  pub before : ℕ
  pub follows : p ≡ suc before
  pub step : PlainStep
  pub there : slice_get steps before ≡ Some step
  pub on : step.nexts_of ≡ p ∷ []
  pub alone : ComesFrom all p before

-- the first point of its row for each point: no later one, and that of the point before where it goes on there alone
pub record AreHeads (steps : List PlainStep) (all : List (ℕ × Arrival)) (heads : List ℕ) : Type 0 where
  pub before : (p h : ℕ) → slice_get heads p ≡ Some h → h ≤ p
  pub goes : (p h : ℕ) → slice_get heads (suc p) ≡ Some h → h ≢ suc p → (slice_get heads p ≡ Some h) × GoesOn steps all (suc p)

-- and no row ends before it has to: where the point before goes on there alone, a point stands in the row of that one
abbrev pub RowsGoOn : List PlainStep → List (ℕ × Arrival) → List ℕ → Type 0
RowsGoOn steps all heads = (p h : ℕ) → slice_get heads (suc p) ≡ Some h → GoesOn steps all (suc p) → slice_get heads p ≡ Some h
