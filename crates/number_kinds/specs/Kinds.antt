-- The kinds of numbers by rows.
use Rattle.std.specs.Prelude.{ℕ, if◌then◌else◌, nat_le, List, [], ◌∷◌}
use Rattle.number_kinds.specs.declared.rows.TheConstants.{DECIMAL_ROWS, HEXADECIMAL_ROWS}

-- by the first row that the number is not behind; all numbers behind the last row are one
abbrev pub kind_in : List (ℕ × ℕ) → ℕ → ℕ
kind_in [] n = 0x110000
kind_in (row ∷ rows) n = if nat_le n row.0 then row.1 else kind_in rows n

-- as decimal digits write it
abbrev pub decimal_kind : ℕ → ℕ
decimal_kind n = kind_in DECIMAL_ROWS n

-- as hexadecimal digits write it
abbrev pub hexadecimal_kind : ℕ → ℕ
hexadecimal_kind n = kind_in HEXADECIMAL_ROWS n
