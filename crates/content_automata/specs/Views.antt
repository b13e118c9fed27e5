-- The plain form of what the code keeps.
use Rattle.std.specs.Prelude.{◌≡◌, ℕ, List, map, Some, slice_get}
use Rattle.content_automata.specs.PlaceViews.{positions_of}
use Rattle.content_automata.specs.declared.model.Model.{Model}
use Rattle.content_automata.specs.declared.model.Model.TheVariants.{Nothing, Anything, Text, Children}
use Rattle.content_automata.specs.Shapes.{Shape, empty, any, text, model, first_state}
use Rattle.content_automata.specs.Tables.{Key, Row, RowFits}
use Rattle.content_automata.specs.declared.explore.State.{State}

-- the plain form of what the automaton of an element is made from
abbrev pub shape_of : Model → Shape
shape_of Nothing = empty
shape_of Anything = any
shape_of (Text es) = text es.items
shape_of (Children first places) = model first (positions_of places.items)

-- the same for all elements, in their order
abbrev pub shapes_of : List Model → List Shape
shapes_of models = map shape_of models

-- the plain form of a state's row
abbrev pub row_of : State → Row
row_of s = (s.ends, s.behind.items)

-- the number is that of the state that the element begins in
abbrev pub BeginsAt : List Shape → List Key → ℕ → ℕ → Type 0
BeginsAt shapes keys e n = (s : Shape) → slice_get shapes e ≡ Some s → slice_get keys n ≡ Some (e, first_state s)

-- the row is that of the state of this number
abbrev pub HasRow : List Shape → List Key → List Key → ℕ → Row → Type 0
HasRow shapes old new n row = (k : Key) × (slice_get old n ≡ Some k) × RowFits shapes new k row
