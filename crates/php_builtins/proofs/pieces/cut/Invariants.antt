use Rattle.std.proofs.Common.{◌≡◌, ◌≤◌, ◌++◌, length}
use Rattle.string_functions.specs.Pieces.{pieces_of}
use Rattle.php_builtins.proofs.pieces.cut.Given as goal

abbrev pub invariant-loop-at : goal.invariant-loop-at
invariant-loop-at l = (l.out.items ++ pieces_of l.sep l.rest ≡ pieces_of l.sep l.text) × (length l.rest ≤ 16777216)

abbrev pub decreases-loop-at : goal.decreases-loop-at
decreases-loop-at l = length l.rest
