-- What is still to be written: pieces on a stack, whose last one comes first.
use Rattle.std.specs.Prelude.{◌≤◌, ℕ, ◌+◌, List, [], ◌∷◌, ◌++◌}
use Rattle.derivations.specs.declared.fork.Piece.{Piece}
use Rattle.derivations.specs.declared.fork.Fork.{Fork}
use Rattle.derivations.specs.Forks.{bytes_at, rank}

-- the bytes that are still to be written: those of the last piece of the stack stand first
abbrev pub pending : List Fork → List Piece → List ℕ
pending forks [] = []
pending forks (p ∷ pieces) = pending forks pieces ++ bytes_at forks p

-- the piece at each place, counted from this one, leaves room for all that it may put on the stack
abbrev pub AreStacked : ℕ → ℕ → List Piece → Type 0
AreStacked count place [] = Unit {0}
AreStacked count place (p ∷ pieces) = (place + rank p ≤ count) × AreStacked count (place + 1) pieces
