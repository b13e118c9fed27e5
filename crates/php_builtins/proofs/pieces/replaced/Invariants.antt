use Rattle.std.proofs.Common.{◌≡◌, ◌++◌, length}
use Rattle.string_functions.specs.Pieces.{replaced_text}
use Rattle.php_builtins.proofs.pieces.replaced.Given as goal

abbrev pub invariant-loop-at : goal.invariant-loop-at
invariant-loop-at l = l.out.items ++ replaced_text l.search l.with l.rest ≡ replaced_text l.search l.with l.text

abbrev pub decreases-loop-at : goal.decreases-loop-at
decreases-loop-at l = length l.rest
