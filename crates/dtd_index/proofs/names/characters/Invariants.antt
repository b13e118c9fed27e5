use Rattle.std.proofs.Common.{◌≡◌, ◌++◌, drop}
use Rattle.dtd_index.proofs.names.characters.Given as goal

abbrev pub invariant-loop-byte : goal.invariant-loop-byte
invariant-loop-byte l = l.characters.items ++ drop l.byte-index l.byte-items ≡ l.name
