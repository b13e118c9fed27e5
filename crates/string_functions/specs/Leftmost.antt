-- What it means that pieces are cut at the leftmost occurrences of a separator.
use Rattle.std.specs.Prelude.{◌≡◌, ℕ, ◌≤◌, List, [], ◌∷◌, ◌++◌, length}
use Rattle.string_functions.specs.Pieces.{join_of}

-- in the text the bytes occur at no place before this one
abbrev pub OccursFrom : List ℕ → List ℕ → ℕ → Type 0
OccursFrom sep text place = (before after : List ℕ) → text ≡ before ++ (sep ++ after) → place ≤ length before

-- each piece but the last ends where the separator first occurs in what is left of the text, and in the last it does not occur
abbrev pub AreLeftmost : List ℕ → List (List ℕ) → Type 0
AreLeftmost sep [] = ⊥
AreLeftmost sep (piece ∷ []) = (before after : List ℕ) → piece ≡ before ++ (sep ++ after) → ⊥
AreLeftmost sep (piece ∷ next ∷ pieces) =
    OccursFrom sep (join_of sep (piece ∷ next ∷ pieces)) (length piece) × AreLeftmost sep (next ∷ pieces)
