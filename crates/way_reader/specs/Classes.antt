-- Classes of bytes that leave the same of ways.
use Rattle.std.specs.Prelude.{ℕ, min, List, [], ◌∷◌}
use Rattle.derivatives.specs.Classes.{last_byte}
use Rattle.derivatives.specs.declared.arena.Arena.{Arena}
use Rattle.partial_derivatives.specs.Classes.{last_in_turn}
use Rattle.way_reader.specs.declared.way.Way.{Way}

-- the last byte up to which all bytes from this one on leave the same of each way
abbrev pub last_of : Arena → ℕ → List Way → ℕ
last_of a b [] = last_byte
last_of a b (way ∷ ways) = min (last_in_turn a b way.parts) (last_of a b ways)
