-- The machine that gives one part of a text: state 0 stands before the part, 1 in it, 2 behind it.
use Rattle.std.specs.Prelude.{◌==◌, [], ◌∷◌, ◌++◌, if◌then◌else◌}
use Rattle.fst_core.specs.declared.out.Out.TheVariants.{Same}
use Rattle.string_ops.specs.Listed.{Rows, Lasts}

-- a byte before the part and one behind it is dropped, one in the part is put out; the part may begin and end at each byte
abbrev pub factor_rows : Rows
factor_rows s byte =
    (if 0 == s then (0, []) ∷ [] else []) ++ (if 0 == s then (1, Same ∷ []) ∷ [] else []) ++ (if 1 == s then (1, Same ∷ []) ∷ [] else [])
    ++ (if 1 == s then (2, []) ∷ [] else [])
    ++ (if 2 == s then (2, []) ∷ [] else [])

-- the text may end in each of the three states, with nothing more put out; in state 0 the part is empty
abbrev pub factor_lasts : Lasts
factor_lasts s = (if 0 == s then [] ∷ [] else []) ++ (if 1 == s then [] ∷ [] else []) ++ (if 2 == s then [] ∷ [] else [])
