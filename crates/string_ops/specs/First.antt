-- The machine that puts the first byte in upper case: state 0 before it, state 1 behind it.
use Rattle.std.specs.Prelude.{◌==◌, [], ◌∷◌, if◌then◌else◌}
use Rattle.fst_core.specs.declared.out.Out.TheVariants.{Same}
use Rattle.string_ops.specs.declared.bytewise.Bytewise.TheVariants.{Upper}
use Rattle.string_ops.specs.Listed.{Rows, Lasts}
use Rattle.string_ops.specs.Plans.{rows_below, lasts_below}
use Rattle.string_ops.specs.Bytewise.{outs_of}

-- in state 0 the byte in upper case, in state 1 the byte itself; either leads to state 1
abbrev pub first_row : Rows
first_row s b = (1, if s == 0 then outs_of Upper b else Same ∷ []) ∷ []

-- the text may end in either state, with nothing more put out
abbrev pub first_last : Lasts
first_last s = [] ∷ []

-- the choices of the two states, and none elsewhere
abbrev pub first_rows : Rows
first_rows = rows_below 2 first_row

-- the ends of the two states, and none elsewhere
abbrev pub first_lasts : Lasts
first_lasts = lasts_below 2 first_last
