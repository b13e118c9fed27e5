-- Why no table is built.
use Rattle.std.specs.Prelude.{◌≡◌, ◌<◌, ◌≤◌, ◌⊎◌, ℕ, List, length}
use Rattle.std.specs.List.{IsDistinct}
use Rattle.content_automata.specs.declared.refusal.ContentRefusal.{ContentRefusal}
use Rattle.content_automata.specs.declared.refusal.ContentRefusal.TheVariants.{Limit, Memory}
use Rattle.content_automata.specs.declared.limits.TheConstants.{STATE_LIMIT, PAIR_LIMIT, MOVE_LIMIT}
use Rattle.content_automata.specs.Shapes.{Shape}
use Rattle.content_automata.specs.Tables.{Key, key_eq, HasStates}
use Rattle.content_automata.specs.Counts.{pairs_in, moves_in, HasMoves}

-- these are too many states
abbrev pub IsOver : List Key → ContentRefusal → Type 0
IsOver keys (Limit count) = (STATE_LIMIT < count) × (length keys ≡ count) × IsDistinct key_eq keys
IsOver keys Memory = Unit {0}

-- these states have at least so many moves, and those are too many
abbrev pub HaveManyMoves : List Shape → List Key → ℕ → Type 0
HaveManyMoves shapes keys count = (MOVE_LIMIT < count) × (count ≤ moves_in shapes keys) × IsDistinct key_eq keys

-- these are too many states, or their moves are
abbrev pub AreTooMany : List Shape → List Key → ContentRefusal → Type 0
AreTooMany shapes keys (Limit count) = IsOver keys (Limit count) ⊎ HaveManyMoves shapes keys count
AreTooMany shapes keys Memory = Unit {0}

-- the content models pass a limit: they have at least so many states, or just so many pairs of positions of which the second may come behind
-- the first, or their states have at least so many moves
pub data PassLimit (shapes : List Shape) (count : ℕ) : Type 0 where
  many_states : STATE_LIMIT < count → HasStates shapes count → PassLimit shapes count
  many_pairs : PAIR_LIMIT < count → count ≡ pairs_in shapes → PassLimit shapes count
  many_moves : MOVE_LIMIT < count → HasMoves shapes count → PassLimit shapes count

-- a limit is passed by so many; want of memory has no cause
abbrev pub IsCause : List Shape → ContentRefusal → Type 0
IsCause shapes (Limit count) = PassLimit shapes count
IsCause shapes Memory = Unit {0}
