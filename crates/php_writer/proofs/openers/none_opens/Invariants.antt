use Rattle.std.proofs.Common.{◌≡◌, drop}
use Rattle.php_writer.specs.Openers.{none_opens}
use Rattle.php_writer.proofs.openers.none_opens.Given as goal

-- what is left to test decides
abbrev pub invariant-loop-place : goal.invariant-loop-place
invariant-loop-place l = none_opens (drop l.place l.bytes) ≡ none_opens l.bytes
