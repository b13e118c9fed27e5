use Rattle.std.proofs.Common.{◌≡◌, ◌≤◌, ◌+◌, false, length}
use Rattle.string_functions.specs.Breaks.{breaks_past}
use Rattle.php_builtins.proofs.line_ends.is_too_long.Given as goal

abbrev pub invariant-loop-first : goal.invariant-loop-first
invariant-loop-first l = (l.total + length (breaks_past l.second l.rest) ≡ length (breaks_past false l.text)) × (l.total ≤ 16777216)

abbrev pub decreases-loop-first : goal.decreases-loop-first
decreases-loop-first l = length l.rest
