use Rattle.std.proofs.Common.{◌≡◌, ◌≤◌, ◌+◌, length}
use Rattle.string_functions.specs.Pieces.{replaced_text}
use Rattle.php_builtins.proofs.pieces.is_too_long.Given as goal

abbrev pub invariant-loop-at : goal.invariant-loop-at
invariant-loop-at l = (l.total + length (replaced_text l.search l.with l.rest) ≡ length (replaced_text l.search l.with l.text)) × (l.total ≤ 16777216)

abbrev pub decreases-loop-at : goal.decreases-loop-at
decreases-loop-at l = length l.rest
