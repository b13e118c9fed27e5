use Rattle.std.proofs.Common.{◌≡◌, ◌++◌, drop}
use Rattle.state_testing.proofs.pieces.characters.Given as goal

abbrev pub invariant-loop-byte : goal.invariant-loop-byte
invariant-loop-byte l = l.characters ++ drop l.byte-index l.byte-items ≡ l.name
