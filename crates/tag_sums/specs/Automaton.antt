-- What may stand in each element, as one finite automaton over labels: each state belongs to one element, and the page
-- itself is one element more.
use Rattle.std.specs.Prelude.{◌≡◌, ℕ, ◌<◌, Bool, true, List, [], ◌∷◌, Option, Some, None}
use Rattle.tag_sums.specs.Labels.{Label}

-- the automaton: its states, where elements begin and end in it, and where the page does
pub record Automaton : Type 0 where
  -- the states are the numbers below this one
  pub count : ℕ
  -- the state that an element begins in; none for one that is not declared
  pub init : ℕ → Option ℕ
  -- the state behind a label; none where it may not stand there
  pub step : ℕ → Label → Option ℕ
  -- the element may end in the state, which is one of its own
  pub closes : ℕ → ℕ → Bool
  -- the element of a state
  pub owner : ℕ → ℕ
  -- the state before all of the page, and the one behind its root
  pub page_start : ℕ
  pub page_done : ℕ

-- states are in range, and labels lead from a state to one of the same element
pub record IsAutomaton (a : Automaton) : Type 0 where
  pub init_below : (e q : ℕ) → a.init e ≡ Some q → q < a.count
  pub step_below : (q r : ℕ) (l : Label) → a.step q l ≡ Some r → r < a.count
  pub start_below : a.page_start < a.count
  pub init_own : (e q : ℕ) → a.init e ≡ Some q → a.owner q ≡ e
  pub step_own : (q r : ℕ) (l : Label) → a.step q l ≡ Some r → a.owner r ≡ a.owner q
  pub closes_own : (e q : ℕ) → a.closes e q ≡ true → a.owner q ≡ e

-- what the second gives for the first, where there is a first
abbrev pub and_then : {A B : Type 0} → Option A → (A → Option B) → Option B
and_then None f = None
and_then (Some a) f = f a

-- the state behind labels in turn
abbrev pub along : Automaton → ℕ → List Label → Option ℕ
along a q [] = Some q
along a q (l ∷ ls) = and_then (a.step q l) (λ r. along a r ls)

-- the labels are what the element may hold
abbrev pub Holds : Automaton → ℕ → List Label → Type 0
Holds a e ls = (q : ℕ) × (r : ℕ) × (a.init e ≡ Some q) × (along a q ls ≡ Some r) × (a.closes e r ≡ true)
