use Rattle.std.proofs.Common.{◌≡◌, length}
use Rattle.string_functions.specs.Trim.{right_trim_of}
use Rattle.php_builtins.proofs.cases.right_trimmed.Given as goal

abbrev pub invariant-loop-last : goal.invariant-loop-last
invariant-loop-last l = right_trim_of l.rest ≡ right_trim_of l.text

abbrev pub decreases-loop-last : goal.decreases-loop-last
decreases-loop-last l = length l.rest
