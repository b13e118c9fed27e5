-- What a table of states decides of a document type definition.
use Rattle.std.specs.Prelude.{◌≡◌, ℕ, ◌<◌, ◌↔◌, Bool, true, List, ◌++◌, map, length, Option, Some, slice_get}
use Rattle.dtd_model.specs.Table.{Rule, Table as Definition}
use Rattle.dtd_model.specs.Matches.{matches}
use Rattle.content_automata.specs.Shapes.{Shape, shape, first_state, states_walk}
use Rattle.content_automata.specs.Tables.{Table, AreElements, run, ends, first_at, next_at, owner_at}

-- what the declared elements may hold
abbrev pub shapes_in : Definition → List Shape
shapes_in d = map (λ (r : Rule). shape r.holding) d.elements

-- children in turn lead from the state that the element begins in to one in which a match may end exactly where the
-- element may hold them
abbrev pub Decides : Definition → Table → Type 0
Decides d t = (e : ℕ) (r : Rule) → slice_get d.elements e ≡ Some r → (es : List ℕ) → AreElements (length d.elements) es
    → ends t (run t (first_at t e) es) ≡ matches (length d.elements) r.holding es

-- children lead to a state exactly where some list of children that begins with them is one that the element may hold:
-- so where a step gives none, no list that goes on so is
abbrev pub GoesOn : Definition → Table → Type 0
GoesOn d t = (e : ℕ) (r : Rule) → slice_get d.elements e ≡ Some r → (es : List ℕ) → AreElements (length d.elements) es
    → ((s : ℕ) × (run t (first_at t e) es ≡ Some s)) ↔
    ((fs : List ℕ) × AreElements (length d.elements) fs × (matches (length d.elements) r.holding (es ++ fs) ≡ true))

-- each state is that behind some children, from the state that one of so many elements begins in
abbrev pub ReachesAll : ℕ → Table → Type 0
ReachesAll count t = (s : ℕ) → s < length t.1
    → (e : ℕ) × (e < count) × (es : List ℕ) × AreElements count es × (run t (first_at t e) es ≡ Some s)

-- the set of positions behind children, of a declared element
abbrev pub set_behind : Definition → Rule → List ℕ → Option (List Bool)
set_behind d r es = states_walk (length d.elements) (shape r.holding) (first_state (shape r.holding)) es

-- two states are one exactly where the elements and the sets of positions are
abbrev pub TellsApart : Definition → Table → Type 0
TellsApart d t = (e f : ℕ) (r q : Rule) (es fs : List ℕ) (m n : ℕ) → slice_get d.elements e ≡ Some r → slice_get d.elements f ≡ Some q
    → AreElements (length d.elements) es → AreElements (length d.elements) fs
    → run t (first_at t e) es ≡ Some m → run t (first_at t f) fs ≡ Some n → (m ≡ n) ↔ ((e ≡ f) × (set_behind d r es ≡ set_behind d q fs))

-- each state belongs to one of so many elements: the one that begins in it, or that of the state before it
pub record HasOwners (count : ℕ) (t : Table) : Type 0 where
  pub first_below : (e : ℕ) → e < count → first_at t e < length t.1
  pub first_own : (e : ℕ) → e < count → owner_at t (first_at t e) ≡ e
  pub next_below : (s r e : ℕ) → next_at t s e ≡ Some r → r < length t.1
  pub next_own : (s r e : ℕ) → next_at t s e ≡ Some r → owner_at t r ≡ owner_at t s
  pub declared : (s : ℕ) → s < length t.1 → owner_at t s < count
