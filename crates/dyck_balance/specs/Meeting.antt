-- How far openers and closers match.
use Rattle.std.specs.Prelude.{◌≡◌, ℕ, ◌≤◌, ◌⊎◌, List, [], ◌∷◌, Option, Some, None, drop, length}
use Rattle.tag_sums.specs.Nesting.{torn, match_tags}

-- after k pairs the rest meets in the same way
abbrev pub MeetsFrom : List ℕ → List ℕ → ℕ → Type 0
MeetsFrom openers closers k = (ca ob : List ℕ) → match_tags ca (drop k openers) (drop k closers) ob ≡ match_tags ca openers closers ob

-- after how many pairs one of the lists is used up; None where an opener and a closer of different elements meet before
abbrev pub Matched : List ℕ → List ℕ → Option ℕ → Type 0
Matched openers closers None = (ca ob : List ℕ) → match_tags ca openers closers ob ≡ torn
Matched openers closers (Some k) =
    (k ≤ length openers) × (k ≤ length closers) × ((drop k openers ≡ []) ⊎ (drop k closers ≡ [])) × MeetsFrom openers closers k

-- one element, or none
abbrev pub list_of : Option ℕ → List ℕ
list_of None = []
list_of (Some e) = e ∷ []
