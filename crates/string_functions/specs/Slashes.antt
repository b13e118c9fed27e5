-- Backslashes before quotes (PHP manual, addslashes).
use Rattle.std.specs.Prelude.{ℕ, ◌==◌, ◌||◌, List, [], ◌∷◌, if◌then◌else◌, flat_map}

-- a backslash before `'`, `"` and `\`; NUL becomes a backslash and `0`
abbrev pub slashes_of_byte : ℕ → List ℕ
slashes_of_byte b = if b == 39 || b == 34 || b == 92 then 92 ∷ b ∷ [] else (if b == 0 then 92 ∷ 48 ∷ [] else b ∷ [])

-- `addslashes(text)`
abbrev pub slashes_of : List ℕ → List ℕ
slashes_of text = flat_map slashes_of_byte text
