-- Ascending lists of positions.
use Rattle.std.specs.Prelude.{ℕ, ◌+◌, ◌<◌, ◌≤◌, List, [], ◌∷◌, nat_lt, nat_le, if◌then◌else◌}

-- the numbers ascend, from one number on and below another
abbrev pub Ascends : ℕ → ℕ → List ℕ → Type 0
Ascends least bound [] = Unit {0}
Ascends least bound (p ∷ ps) = (least ≤ p) × (p < bound) × Ascends (p + 1) bound ps

-- in turn each number that is above those before it, from one number on and below another
abbrev pub ascending : ℕ → ℕ → List ℕ → List ℕ
ascending least bound [] = []
ascending least bound (p ∷ ps) =
    if nat_lt p least then ascending least bound ps
    else (if nat_le bound p then ascending least bound ps else p ∷ ascending (p + 1) bound ps)
