-- The states that a table may have come to after a part of the input, each with how much of the output it has put out.
use Rattle.std.specs.Prelude.{◌≡◌, ℕ, ◌≤◌, List, ◌++◌, map, drop, length, Some, slice_get, Contains}
use Rattle.std.specs.declared.vec.Vec.{Vec}
use Rattle.std.specs.declared.alloc.Global.{Global}
use Rattle.text_base.specs.ByteRange.{InRange}
use Rattle.text_base.specs.declared.letter.Letter.{Letter}
use Rattle.text_base.specs.declared.letter.Letter.TheVariants.{OfByte}
use Rattle.fst_core.specs.Letter.{letter_of}
use Rattle.fst_core.specs.Runs.{Gives}
use Rattle.fst_core.specs.Tables.{TableStep, TableStop}
use Rattle.fst_core.specs.declared.moves.TableMove.{TableMove}
use Rattle.fst_core.specs.declared.moves.TableEnd.{TableEnd}
use Rattle.fst_core.specs.declared.table.Table.{Table}
use Rattle.fst_core.specs.declared.layers.Reached.{Reached}

-- what is left of the output from a place on
abbrev pub letters_from : List ℕ → ℕ → List Letter
letters_from output at = map OfByte (drop at output)

-- from the state of the table over the text to an end
abbrev pub TableGives : Table → ℕ → List ℕ → List Letter → Type 0
TableGives table s text out = Gives (TableStep table.moves.items) (TableStop table.ends.items) s text out

-- from one of the states, over the text, to an end, with what is left of the output
abbrev pub SomeGives : Table → List Reached → List ℕ → List ℕ → Type 0
SomeGives table keys text output =
    (r : Reached) × Contains keys r × (r.written ≤ length output) × TableGives table r.state text (letters_from output r.written)

-- the move, by the byte, and then over the text to an end, with what is left of the output from a place on
abbrev pub ByMove : Table → TableMove → ℕ → ℕ → List ℕ → List ℕ → Type 0
ByMove table m at byte text output =
    (at ≤ length output) × InRange m.range byte × (rest : List Letter) × (letters_from output at ≡ map (letter_of byte) m.out.items ++ rest)
    × TableGives table m.to text rest

-- the same by one of the moves at these places
abbrev pub ByMoves : Table → List ℕ → ℕ → ℕ → List ℕ → List ℕ → Type 0
ByMoves table places at byte text output =
    (i : ℕ) × Contains places i × (m : TableMove) × (slice_get table.moves.items i ≡ Some m) × ByMove table m at byte text output

-- the end is of one of the states, and puts out what is left of the output there
abbrev pub StopsBy : List Reached → List ℕ → TableEnd → Type 0
StopsBy keys output e =
    (r : Reached) × Contains keys r × (r.written ≤ length output) × (e.state ≡ r.state)
    × (map (letter_of 0) e.out.items ≡ letters_from output r.written)

-- the places of the moves that each state has
pub record IsIndex (moves : List TableMove) (index : List (Vec ℕ Global)) : Type 0 where
  pub sound : (s : ℕ) (places : Vec ℕ Global) → slice_get index s ≡ Some places → (i : ℕ) → Contains places.items i
      → (m : TableMove) × (slice_get moves i ≡ Some m) × (m.from ≡ s)
  pub full : (i : ℕ) (m : TableMove) → slice_get moves i ≡ Some m
      → (places : Vec ℕ Global) × (slice_get index m.from ≡ Some places) × Contains places.items i
