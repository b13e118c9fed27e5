-- Classes of bytes that leave the same of parts in turn.
use Rattle.std.specs.Prelude.{◌≡◌, ◌≤◌, ℕ, min, if◌then◌else◌, List, [], ◌∷◌}
use Rattle.derivatives.specs.Derivatives.{may_end}
use Rattle.derivatives.specs.Classes.{last_byte, last_alike}
use Rattle.derivatives.specs.declared.arena.Arena.{Arena}
use Rattle.partial_derivatives.specs.declared.part.Part.{Part}
use Rattle.partial_derivatives.specs.Parts.{part_expr, behind_parts}

-- the last byte up to which all bytes from this one on leave the same
abbrev pub last_in_turn : Arena → ℕ → List Part → ℕ
last_in_turn a b [] = last_byte
last_in_turn a b (p ∷ ps) =
    if may_end (part_expr a p) then min (last_alike b (part_expr a p)) (last_in_turn a b ps) else last_alike b (part_expr a p)

-- and so they do, the byte itself among them
pub record AreClassesInTurn : Type 0 where
  pub own : (a : Arena) (b : ℕ) (ps : List Part) → b ≤ last_byte → b ≤ last_in_turn a b ps
  pub alike : (a : Arena) (b c : ℕ) (ps : List Part) → b ≤ c → c ≤ last_in_turn a b ps → behind_parts a c ps ≡ behind_parts a b ps
