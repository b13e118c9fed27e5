use Rattle.std.proofs.Common.{◌≡◌, ◌+◌, ◌++◌, length}
use Rattle.php_builtins.specs.Encodings.{encoded}
use Rattle.php_builtins.proofs.encodings.written.Given as goal

abbrev pub invariant-loop-first : goal.invariant-loop-first
invariant-loop-first l = l.out.items ++ encoded l.encoding l.rest ≡ encoded l.encoding l.text

abbrev pub decreases-loop-first : goal.decreases-loop-first
decreases-loop-first l = length l.rest
