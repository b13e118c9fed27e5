-- The machine that puts `<br />` before line ends: state 1 behind a CR and state 2 behind an LF whose `<br />` was put out, state 0
-- elsewhere.
use Rattle.std.specs.Prelude.{ℕ, ◌==◌, ◌||◌, ◌&&◌, Bool, List, [], ◌∷◌, ◌++◌, map, codes, if◌then◌else◌}
use Rattle.fst_core.specs.declared.out.Out.{Out}
use Rattle.fst_core.specs.declared.out.Out.TheVariants.{Same, Byte}
use Rattle.string_functions.specs.Breaks.{is_line_end}
use Rattle.string_ops.specs.Listed.{Rows, Lasts}
use Rattle.string_ops.specs.Plans.{rows_below, lasts_below}

-- the byte is the second of a line end
abbrev pub is_second : ℕ → ℕ → Bool
is_second s b = (s == 1 && b == 10) || (s == 2 && b == 13)

-- the state behind a byte; 0 behind the second byte of CR LF or LF CR
abbrev pub breaks_next : ℕ → ℕ → ℕ
breaks_next s b = if is_second s b then 0 else (if b == 13 then 1 else (if b == 10 then 2 else 0))

-- the byte, with `<br />` before it where it begins a line end
abbrev pub breaks_put : ℕ → ℕ → List Out
breaks_put s b = if is_second s b then Same ∷ [] else (if is_line_end b then map Byte (codes "<br />") ++ Same ∷ [] else Same ∷ [])

-- the one choice of a state by a byte
abbrev pub breaks_row : Rows
breaks_row s b = (breaks_next s b, breaks_put s b) ∷ []

-- the text may end in each state, with nothing more put out
abbrev pub breaks_last : Lasts
breaks_last s = [] ∷ []

-- the choices of the three states, and none elsewhere
abbrev pub breaks_rows : Rows
breaks_rows = rows_below 3 breaks_row

-- the ends of the three states, and none elsewhere
abbrev pub breaks_lasts : Lasts
breaks_lasts = lasts_below 3 breaks_last
