-- The laws, as statements.
use Rattle.std.specs.Prelude.{◌≡◌, ◌⊎◌, ◌↔◌, ℕ, true, List, [], ◌∷◌}
use Rattle.derivatives.specs.declared.arena.Arena.{Arena}
use Rattle.partial_derivatives.specs.declared.part.Part.{Part}
use Rattle.partial_derivatives.specs.Parts.{InTurn, all_end, behind_parts}

-- one of the rows matches the text
abbrev pub OneMatches : Arena → List (List Part) → List ℕ → Type 0
OneMatches a [] w = ⊥
OneMatches a (ps ∷ rows) w = InTurn a ps w ⊎ OneMatches a rows w

-- parts may end exactly where they match the empty text
abbrev pub EndInTurn : Type 0
EndInTurn = (a : Arena) (ps : List Part) → (all_end a ps ≡ true) ↔ InTurn a ps []

-- the rows that a byte leaves of parts match exactly what may follow the byte
abbrev pub ByteInTurn : Type 0
ByteInTurn = (a : Arena) (b : ℕ) (ps : List Part) (w : List ℕ) → OneMatches a (behind_parts a b ps) w ↔ InTurn a ps (b ∷ w)
