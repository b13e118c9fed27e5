use Rattle.std.proofs.Common.{◌≡◌, ◌≤◌, ◌+◌, ◌++◌, length}
use Rattle.plain_values.specs.Text.{text_of}
use Rattle.php_values.specs.View.{plain_of, pairs_of}
use Rattle.php_builtins.specs.Joined.{behind_first}
use Rattle.php_builtins.proofs.joining.is_too_long.Given as goal

abbrev pub invariant-loop-pair : goal.invariant-loop-pair
invariant-loop-pair l = (l.total + length (behind_first l.sep (pairs_of l.rest)) ≡ length (text_of (plain_of l.first) ++ behind_first l.sep (pairs_of l.others))) × (l.total ≤ 16777216)

abbrev pub decreases-loop-pair : goal.decreases-loop-pair
decreases-loop-pair l = length l.rest
