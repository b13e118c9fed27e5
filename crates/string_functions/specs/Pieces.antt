-- Cutting at a separator, joining, and replacing (PHP manual, explode, implode and str_replace).
use Rattle.std.specs.Prelude.{ℕ, zero, suc, ◌-◌, List, [], ◌∷◌, ◌++◌, length, nat_eq, if◌then◌else◌}
use Rattle.std.specs.List.{starts_with}

-- the byte goes to the front of the first piece
abbrev pub in_first : ℕ → List (List ℕ) → List (List ℕ)
in_first b [] = (b ∷ []) ∷ []
in_first b (piece ∷ pieces) = (b ∷ piece) ∷ pieces

-- the pieces of what follows the first `left` bytes, which belong to an occurrence of the separator: from the left, where the separator
-- stands a piece ends, and else the byte is the piece's
abbrev pub pieces_past : List ℕ → ℕ → List ℕ → List (List ℕ)
pieces_past sep left [] = [] ∷ []
pieces_past sep (suc left) (b ∷ rest) = pieces_past sep left rest
pieces_past sep zero (b ∷ rest) =
    if starts_with nat_eq (b ∷ rest) sep then [] ∷ pieces_past sep (length sep - 1) rest else in_first b (pieces_past sep 0 rest)

-- `explode(sep, text)`: the pieces between the leftmost occurrences that do not overlap; an empty separator gives none
abbrev pub pieces_of : List ℕ → List ℕ → List (List ℕ)
pieces_of [] text = []
pieces_of (c ∷ sep) text = pieces_past (c ∷ sep) 0 text

-- `implode(sep, texts)`: the texts in turn, with the separator between each two
abbrev pub join_of : List ℕ → List (List ℕ) → List ℕ
join_of sep [] = []
join_of sep (text ∷ []) = text
join_of sep (text ∷ next ∷ texts) = text ++ (sep ++ join_of sep (next ∷ texts))

-- `str_replace(search, with, text)`: each of the leftmost occurrences that do not overlap is replaced, and what is put in is not searched
-- again; an empty search leaves the text
abbrev pub replaced_text : List ℕ → List ℕ → List ℕ → List ℕ
replaced_text [] with text = text
replaced_text (c ∷ search) with text = join_of with (pieces_of (c ∷ search) text)

-- how many of the leftmost occurrences that do not overlap there are; of an empty search none
abbrev pub occurrences_of : List ℕ → List ℕ → ℕ
occurrences_of search text = length (pieces_of search text) - 1
