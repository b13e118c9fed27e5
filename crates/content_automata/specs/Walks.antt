-- Walking over the positions of a content model.
use Rattle.std.specs.Prelude.{ℕ, Bool, true, false, ◌==◌, ◌&&◌, ◌||◌, List, [], ◌∷◌, ◌++◌, slice_index_or}
use Rattle.std.specs.List.{list_any}
use Rattle.content_automata.specs.Positions.{Next, Position}

-- a place that no model has
abbrev pub nowhere : Position
nowhere = record { element = 0; behind = record { positions = []; whole = false } }

-- the position of this number
abbrev pub place_at : List Position → ℕ → Position
place_at places p = slice_index_or places p nowhere

-- from what may come next, these elements in turn lead to the end
abbrev pub leads : (ℕ → Position) → Next → List ℕ → Bool
leads at next [] = next.whole
leads at next (e ∷ es) = list_any (λ p. e == (at p).element && leads at (at p).behind es) next.positions

-- what may come next behind the element: what may come behind each of the positions that name it
abbrev pub joined : (ℕ → Position) → ℕ → List ℕ → Next
joined at e [] = record { positions = []; whole = false }
joined at e (p ∷ ps) = put_to (e == (at p).element) (at p).behind (joined at e ps)
  where
    put_to : Bool → Next → Next → Next
    put_to true next others = record { positions = next.positions ++ others.positions; whole = next.whole || others.whole }
    put_to false next others = others

-- what may come next behind the element
abbrev pub step : (ℕ → Position) → Next → ℕ → Next
step at next e = joined at e next.positions

-- what may come next behind these elements
abbrev pub walk : (ℕ → Position) → Next → List ℕ → Next
walk at next [] = next
walk at next (e ∷ es) = walk at (step at next e) es
