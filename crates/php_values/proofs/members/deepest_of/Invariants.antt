use Rattle.std.proofs.Common.{take}
use Rattle.php_values.specs.Index.{HasDeepest}
use Rattle.php_values.proofs.members.deepest_of.Given as goal

abbrev pub invariant-loop-pair : goal.invariant-loop-pair
invariant-loop-pair l = HasDeepest l.deepest.depth l.deepest.count (take l.pair-index l.pairs)
