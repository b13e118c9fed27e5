-- How far openers and closers match.
use Rattle.std.specs.Prelude.{◌≡◌, ℕ, ◌≤◌, ◌⊎◌, Bool, List, [], Option, Some, None, drop, length}
use Rattle.tag_sums.specs.Sum.{meet, broken}

-- after k pairs the rest meets in the same way
abbrev pub MeetsFrom : List ℕ → List (List Bool) → ℕ → Type 0
MeetsFrom openers closers k = (ca : List (List Bool)) (ma mb : List (Option ℕ)) (ob : List ℕ)
    → meet ca ma (drop k openers) (drop k closers) mb ob ≡ meet ca ma openers closers mb ob

-- after how many pairs one of the lists is used up; None where before that an opener's state is none of those of the closer that it meets
abbrev pub Matched : List ℕ → List (List Bool) → Option ℕ → Type 0
Matched openers closers None = (ca : List (List Bool)) (ma mb : List (Option ℕ)) (ob : List ℕ) → meet ca ma openers closers mb ob ≡ broken
Matched openers closers (Some k) =
    (k ≤ length openers) × (k ≤ length closers) × ((drop k openers ≡ []) ⊎ (drop k closers ≡ [])) × MeetsFrom openers closers k
