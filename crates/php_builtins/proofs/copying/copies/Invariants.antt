use Rattle.std.proofs.Common.{◌≡◌, ◌++◌}
use Rattle.string_functions.specs.Copies.{copies_of}
use Rattle.php_builtins.proofs.copying.copies.Given as goal

abbrev pub invariant-loop-left : goal.invariant-loop-left
invariant-loop-left l = l.out.items ++ copies_of l.left l.text ≡ copies_of l.count l.text

abbrev pub decreases-loop-left : goal.decreases-loop-left
decreases-loop-left l = l.left
