use Rattle.std.proofs.Common.{length}
use Rattle.expr_parser.specs.Heads.{terminals_of}
use Rattle.php_parser.proofs.Open.{OpenSoFar}
use Rattle.php_parser.proofs.brackets.too_many.Given as goal

abbrev pub invariant-tokens : goal.invariant-tokens
invariant-tokens l = OpenSoFar (terminals_of l.tokens) (terminals_of l.rest) l.count

abbrev pub decreases-tokens : goal.decreases-tokens
decreases-tokens l = length (terminals_of l.rest)
