use Rattle.std.proofs.Common.{◌≡◌, take}
use Rattle.builtin_meaning.specs.Values.{numbered_from}
use Rattle.php_builtins.proofs.pieces.list_of.Given as goal

abbrev pub invariant-loop-text : goal.invariant-loop-text
invariant-loop-text l = l.made ≡ numbered_from 0 (take l.text-index l.texts)
