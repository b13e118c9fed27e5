-- Stripping white space from the ends (PHP manual, trim, ltrim and rtrim).
use Rattle.std.specs.Prelude.{ℕ, Bool, ◌==◌, ◌||◌, List, [], ◌∷◌, if◌then◌else◌}
use Rattle.std.specs.List.{list_all}

-- a byte that is stripped: space, tab, LF, CR, NUL or vertical tab
abbrev pub is_stripped : ℕ → Bool
is_stripped b = b == 32 || b == 9 || b == 10 || b == 13 || b == 0 || b == 11

-- `ltrim(text)`: the text from its first byte on that is not stripped
abbrev pub left_trim_of : List ℕ → List ℕ
left_trim_of [] = []
left_trim_of (b ∷ rest) = if is_stripped b then left_trim_of rest else b ∷ rest

-- `rtrim(text)`: the text up to its last byte that is not stripped
abbrev pub right_trim_of : List ℕ → List ℕ
right_trim_of [] = []
right_trim_of (b ∷ rest) = if list_all is_stripped (b ∷ rest) then [] else b ∷ right_trim_of rest

-- `trim(text)` where both sides are asked for, `ltrim(text)` and `rtrim(text)` where one is
abbrev pub trim_of : Bool → Bool → List ℕ → List ℕ
trim_of left right text = let front = (if left then left_trim_of text else text) in (if right then right_trim_of front else front)
