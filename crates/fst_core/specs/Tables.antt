-- The machine of a table.
use Rattle.std.specs.Prelude.{◌≡◌, ℕ, List, map, Contains}
use Rattle.text_base.specs.ByteRange.{InRange}
use Rattle.text_base.specs.declared.letter.Letter.{Letter}
use Rattle.fst_core.specs.Letter.{letter_of}
use Rattle.fst_core.specs.Runs.{Relates}
use Rattle.fst_core.specs.declared.moves.TableMove.{TableMove}
use Rattle.fst_core.specs.declared.moves.TableEnd.{TableEnd}
use Rattle.fst_core.specs.declared.table.Table.{Table}

-- one of the moves leads by the byte from the one state to the other and puts out the letters
abbrev pub TableStep : List TableMove → ℕ → ℕ → ℕ → List Letter → Type 0
TableStep moves s byte t letters =
    (m : TableMove) × Contains moves m × (m.from ≡ s) × InRange m.range byte × (m.to ≡ t) × (map (letter_of byte) m.out.items ≡ letters)

-- one of the ends is of the state and puts out the letters; none of them depends on a byte, so 0 stands for it
abbrev pub TableStop : List TableEnd → ℕ → List Letter → Type 0
TableStop ends s letters =
    (e : TableEnd) × Contains ends e × (e.state ≡ s) × (map (letter_of 0) e.out.items ≡ letters)

-- the table relates the input to the output
abbrev pub TableRelates : Table → List ℕ → List Letter → Type 0
TableRelates table input output =
    Relates table.start (TableStep table.moves.items) (TableStop table.ends.items) input output
