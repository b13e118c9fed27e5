-- The machine that gives one piece between separators: state 0 stands at a separator or the beginning; from state 1 on those before the
-- piece, where so many bytes of the separator are read; then those in the piece; and the last, behind it.
use Rattle.std.specs.Prelude.{◌==◌, ℕ, ◌+◌, ◌-◌, true, false, List, [], ◌∷◌, ◌++◌, length, take, map, if◌then◌else◌}
use Rattle.fst_core.specs.declared.out.Out.{Out}
use Rattle.fst_core.specs.declared.out.Out.TheVariants.{Byte}
use Rattle.string_ops.specs.Listed.{Rows, Lasts}
use Rattle.string_ops.specs.Search.{turn_by, is_within}

-- the state behind the piece
abbrev pub behind : List ℕ → ℕ
behind sep = 1 + length sep + length sep

-- before the piece nothing is put out; behind an occurrence the piece may begin
abbrev pub before_turn : List ℕ → ℕ → ℕ → ℕ × List Out
before_turn sep at byte = turn_by sep 1 (0, []) false at byte

-- in the piece what is part of no occurrence is put out, and an occurrence ends it
abbrev pub inside_turn : List ℕ → ℕ → ℕ → ℕ × List Out
inside_turn sep at byte = turn_by sep (1 + length sep) (behind sep, []) true at byte

-- at a separator or the beginning the next piece is passed over or given; before and in the piece the separator is searched for
abbrev pub piece_rows : List ℕ → Rows
piece_rows sep s byte =
    (if 0 == s then before_turn sep 0 byte ∷ [] else []) ++ (if 0 == s then inside_turn sep 0 byte ∷ [] else [])
    ++ (if is_within 1 (length sep) s then before_turn sep (s - 1) byte ∷ [] else [])
    ++ (if is_within (1 + length sep) (length sep) s then inside_turn sep (s - (1 + length sep)) byte ∷ [] else [])
    ++ (if behind sep == s then (behind sep, []) ∷ [] else [])

-- the text may end at a separator, in the piece, with the bytes of the separator that were held back, and behind the piece
abbrev pub piece_lasts : List ℕ → Lasts
piece_lasts sep s =
    (if 0 == s then [] ∷ [] else [])
    ++ (if is_within (1 + length sep) (length sep) s then map Byte (take (s - (1 + length sep)) sep) ∷ [] else [])
    ++ (if behind sep == s then [] ∷ [] else [])
