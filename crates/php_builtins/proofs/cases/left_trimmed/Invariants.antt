use Rattle.std.proofs.Common.{◌≡◌, length}
use Rattle.string_functions.specs.Trim.{left_trim_of}
use Rattle.php_builtins.proofs.cases.left_trimmed.Given as goal

abbrev pub invariant-loop-first : goal.invariant-loop-first
invariant-loop-first l = left_trim_of l.rest ≡ left_trim_of l.text

abbrev pub decreases-loop-first : goal.decreases-loop-first
decreases-loop-first l = length l.rest
