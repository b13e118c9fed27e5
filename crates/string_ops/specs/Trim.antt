-- The machine that strips bytes from the ends: state 0 at the front, 1 behind a byte that stays, 2 behind a byte to be stripped that stays
-- since one that stays follows, 3 behind the first byte of those that are stripped from the end.
use Rattle.std.specs.Prelude.{ℕ, ◌==◌, ◌&&◌, Bool, List, [], ◌∷◌, if◌then◌else◌}
use Rattle.fst_core.specs.declared.out.Out.{Out}
use Rattle.fst_core.specs.declared.out.Out.TheVariants.{Same}
use Rattle.string_functions.specs.Trim.{is_stripped}
use Rattle.string_ops.specs.Listed.{Rows, Lasts}
use Rattle.string_ops.specs.Plans.{rows_below, lasts_below}

-- behind a byte that stays, by a byte that is to be stripped or not
abbrev pub kept_by : Bool → Bool → List (ℕ × List Out)
kept_by right stripped = if right && stripped then (2, Same ∷ []) ∷ (3, []) ∷ [] else (1, Same ∷ []) ∷ []

-- the choices of a state by a byte that is to be stripped or not; `left` and `right` say which ends are stripped
abbrev pub trim_by : Bool → Bool → ℕ → Bool → List (ℕ × List Out)
trim_by left right s stripped =
    if s == 0 then (if left then (if stripped then (0, []) ∷ [] else (1, Same ∷ []) ∷ []) else kept_by right stripped)
    else (if s == 1 then kept_by right stripped
    else (if s == 2 then (if stripped then (2, Same ∷ []) ∷ [] else (1, Same ∷ []) ∷ [])
    else (if stripped then (3, []) ∷ [] else [])))

-- the choices behind a byte that stays, by a byte
abbrev pub kept_row : Bool → ℕ → List (ℕ × List Out)
kept_row right b = kept_by right (is_stripped b)

-- the choices of a state by a byte
abbrev pub trim_row : Bool → Bool → Rows
trim_row left right s b = trim_by left right s (is_stripped b)

-- the text may end in each state but 2, which is owed a byte that stays; nothing more is put out
abbrev pub trim_last : Lasts
trim_last s = if s == 2 then [] else [] ∷ []

-- the choices of the four states, and none elsewhere
abbrev pub trim_rows : Bool → Bool → Rows
trim_rows left right = rows_below 4 (trim_row left right)

-- the ends of the four states, and none elsewhere
abbrev pub trim_lasts : Lasts
trim_lasts = lasts_below 4 trim_last
