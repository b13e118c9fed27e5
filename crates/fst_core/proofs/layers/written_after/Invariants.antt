use Rattle.std.proofs.Common.{◌≡◌, ◌≤◌, length, ◌++◌, map, take}
use Rattle.fst_core.specs.Letter.{letter_of}
use Rattle.fst_core.specs.Layers.{letters_from}
use Rattle.fst_core.proofs.layers.written_after.Given as goal

abbrev pub invariant-loop-one : goal.invariant-loop-one
invariant-loop-one l =
    record {
      puts : letters_from l.output l.from ≡ map (letter_of l.byte) (take l.one-index l.out) ++ letters_from l.output l.at;
      behind : l.from ≤ l.at;
      within : l.from ≤ length l.output → l.at ≤ length l.output;
    }
