use Rattle.std.proofs.Common.{◌≡◌, ◌≤◌, ◌+◌, length}
use Rattle.php_builtins.specs.Encodings.{encoded}
use Rattle.php_builtins.proofs.encodings.is_too_long.Given as goal

abbrev pub invariant-loop-first : goal.invariant-loop-first
invariant-loop-first l = (l.total + length (encoded l.encoding l.rest) ≡ length (encoded l.encoding l.text)) × (l.total ≤ 16777216)

abbrev pub decreases-loop-first : goal.decreases-loop-first
decreases-loop-first l = length l.rest
