-- Lower and upper case of ASCII letters (PHP manual, strtolower, strtoupper and ucfirst, as from version 8.2 on).
use Rattle.std.specs.Prelude.{ℕ, List, [], ◌∷◌, map}
use Rattle.std.specs.Char.{to_ascii_lowercase, to_ascii_uppercase}

-- `strtolower(text)`
abbrev pub lower_of : List ℕ → List ℕ
lower_of text = map to_ascii_lowercase text

-- `strtoupper(text)`
abbrev pub upper_of : List ℕ → List ℕ
upper_of text = map to_ascii_uppercase text

-- `ucfirst(text)`: the first byte as by `strtoupper`
abbrev pub first_upper_of : List ℕ → List ℕ
first_upper_of [] = []
first_upper_of (b ∷ rest) = to_ascii_uppercase b ∷ rest
