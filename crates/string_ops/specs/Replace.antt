-- The machine that replaces a pattern: state `at` has read `at` bytes of it.
use Rattle.std.specs.Prelude.{ℕ, true, Bool, ◌&&◌, List, [], ◌∷◌, ◌++◌, length, take, map, nat_lt, ◌-◌, if◌then◌else◌}
use Rattle.fst_core.specs.declared.out.Out.TheVariants.{Byte}
use Rattle.string_ops.specs.Listed.{Rows, Lasts}
use Rattle.string_ops.specs.Search.{turn_by, is_within}

-- by a byte the search goes on: what is then part of no occurrence is put out as it stands, and a whole occurrence as its replacement
abbrev pub replace_rows : List ℕ → List ℕ → Rows
replace_rows pattern with s byte =
    if is_within 0 (length pattern) s then turn_by pattern 0 (0, map Byte with) true (s - 0) byte ∷ [] else []

-- the text may end in each state; the bytes of the pattern that were read are then put out as they stand
abbrev pub replace_lasts : List ℕ → Lasts
replace_lasts pattern s = if is_within 0 (length pattern) s then map Byte (take (s - 0) pattern) ∷ [] else []
