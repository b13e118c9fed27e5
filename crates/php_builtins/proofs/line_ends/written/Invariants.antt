use Rattle.std.proofs.Common.{◌≡◌, ◌+◌, ◌++◌, false, length}
use Rattle.string_functions.specs.Breaks.{breaks_past}
use Rattle.php_builtins.proofs.line_ends.written.Given as goal

abbrev pub invariant-loop-first : goal.invariant-loop-first
invariant-loop-first l = l.out.items ++ breaks_past l.second l.rest ≡ breaks_past false l.text

abbrev pub decreases-loop-first : goal.decreases-loop-first
decreases-loop-first l = length l.rest
