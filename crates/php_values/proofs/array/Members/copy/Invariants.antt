use Rattle.std.proofs.Common.{◌≡◌, take}
use Rattle.php_values.specs.View.{pairs_of}
use Rattle.php_values.proofs.array.Members.copy.Given as goal

abbrev pub invariant-loop-pair : goal.invariant-loop-pair
invariant-loop-pair l = l.made ≡ pairs_of (take l.pair-index l.pair-items)
