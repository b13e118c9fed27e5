-- What leads to each point, as a list: the exits of each point in turn, and then the entries of the functions.
use Rattle.std.specs.Prelude.{ℕ, suc, if◌then◌else◌, List, [], ◌∷◌, ◌++◌, flat_map, nat_lt}
use Rattle.flow_code.specs.Points.{PlainFlowFunction}
use Rattle.flow_graph.specs.declared.arrivals.Arrival.{Arrival}
use Rattle.flow_graph.specs.declared.arrivals.Arrival.TheVariants.{Edge, Entry}
use Rattle.flow_graph.specs.Steps.{PlainStep}

-- the point that is arrived at
abbrev pub target : ℕ × Arrival → ℕ
target a = a.0

-- an arrival at one of the first points
unfoldable pub within : ℕ → ℕ × Arrival → List (ℕ × Arrival)
within count a = if nat_lt a.0 count then a ∷ [] else []

-- the arrivals by the exits of the point of this number, at the points below the count, in the order of the exits
abbrev pub from_exits : ℕ → ℕ → List ℕ → List (ℕ × Arrival)
from_exits count q ps = flat_map (λ p. within count (p, Edge q)) ps

-- the points in turn, from a number on
unfoldable pub from_steps : ℕ → ℕ → List PlainStep → List (ℕ × Arrival)
from_steps count q [] = []
from_steps count q (s ∷ ss) = from_exits count q s.nexts_of ++ from_steps count (suc q) ss

-- the arrivals by the entries of the functions, from a number on, at the points below the count
unfoldable pub from_functions : ℕ → ℕ → List PlainFlowFunction → List (ℕ × Arrival)
from_functions count f [] = []
from_functions count f (g ∷ gs) = within count (g.entry_of, Entry f) ++ from_functions count (suc f) gs
