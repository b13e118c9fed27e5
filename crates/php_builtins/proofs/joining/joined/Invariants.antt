use Rattle.std.proofs.Common.{◌≡◌, ◌++◌, length}
use Rattle.plain_values.specs.Text.{text_of}
use Rattle.php_values.specs.View.{plain_of, pairs_of}
use Rattle.php_builtins.specs.Joined.{behind_first}
use Rattle.php_builtins.proofs.joining.joined.Given as goal

abbrev pub invariant-loop-pair : goal.invariant-loop-pair
invariant-loop-pair l = l.out.items ++ behind_first l.sep (pairs_of l.rest) ≡ text_of (plain_of l.first) ++ behind_first l.sep (pairs_of l.others)

abbrev pub decreases-loop-pair : goal.decreases-loop-pair
decreases-loop-pair l = length l.rest
