-- The automaton of an element: its states are sets of positions; an element that holds no list of children has one
-- state alone, as it holds nothing, anything, or text with some elements.
use Rattle.std.specs.Prelude.{ℕ, Bool, true, List, [], ◌∷◌, nat_eq, nat_lt, Option, Some, None, if◌then◌else◌, ◌≡◌, ◌+◌, length}
use Rattle.std.specs.List.{list_any}
use Rattle.dtd_model.specs.Table.{Holding, nothing, anything, text_and, children}
use Rattle.content_automata.specs.Positions.{Position, places_of}
use Rattle.content_automata.specs.Sets.{first_set}
use Rattle.content_automata.specs.PlaceViews.{step_of}

-- what the automaton of an element is made from
pub data Shape : Type 0 where
  empty : Shape
  any : Shape
  text : List ℕ → Shape
  -- the set before a match, and the positions
  model : List Bool → List Position → Shape

-- what an element may hold, with the positions of its content model
abbrev pub shape : Holding → Shape
shape nothing = empty
shape anything = any
shape (text_and es) = text es
shape (children m) = model (first_set m) (places_of m)

-- the one state of an element without a content model
abbrev pub one_state : List Bool
one_state = true ∷ []

-- the state before the first child
abbrev pub first_state : Shape → List Bool
first_state empty = one_state
first_state any = one_state
first_state (text es) = one_state
first_state (model first places) = first

-- the state, where it stays
abbrev pub kept : List Bool → Bool → Option (List Bool)
kept flags stays = if stays then Some flags else None

-- the state behind a child, where so many elements are declared; none where no match goes on so
abbrev pub state_behind : ℕ → Shape → List Bool → ℕ → Option (List Bool)
state_behind count empty flags e = None
state_behind count any flags e = if nat_lt e count then Some flags else None
state_behind count (text es) flags e = if list_any (nat_eq e) es then Some flags else None
state_behind count (model first places) flags e = step_of places flags e

-- and then what the second gives for it
abbrev pub then_some : {X Y : Type 0} → Option X → (X → Option Y) → Option Y
then_some None next = None
then_some (Some x) next = next x

-- the state behind children in turn
abbrev pub states_walk : ℕ → Shape → List Bool → List ℕ → Option (List Bool)
states_walk count s flags [] = Some flags
states_walk count s flags (e ∷ es) = then_some (state_behind count s flags e) (λ (next : List Bool). states_walk count s next es)

-- the state has a flag for the end and one for each position
abbrev pub IsSized : Shape → List Bool → Type 0
IsSized empty flags = Unit {0}
IsSized any flags = Unit {0}
IsSized (text es) flags = Unit {0}
IsSized (model first places) flags = length flags ≡ length places + 1
