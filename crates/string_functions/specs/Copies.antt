-- Copies in a row (PHP manual, str_repeat).
use Rattle.std.specs.Prelude.{ℕ, zero, suc, List, [], ◌++◌}

-- `str_repeat(text, count)`
abbrev pub copies_of : ℕ → List ℕ → List ℕ
copies_of zero text = []
copies_of (suc count) text = text ++ copies_of count text
