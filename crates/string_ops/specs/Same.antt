-- The machine that puts out what it reads.
use Rattle.std.specs.Prelude.{[], ◌∷◌, ◌==◌, if◌then◌else◌}
use Rattle.fst_core.specs.declared.out.Out.TheVariants.{Same}
use Rattle.string_ops.specs.Listed.{Rows, Lasts}

-- the one state puts out the byte that it reads, and stays
abbrev pub same_rows : Rows
same_rows s byte = if 0 == s then (0, Same ∷ []) ∷ [] else []

-- the one state may end, with nothing more put out
abbrev pub same_lasts : Lasts
same_lasts s = if 0 == s then [] ∷ [] else []
