use Rattle.std.proofs.Common.{◌≡◌, take}
use Rattle.value_operations.specs.Joined.{joined}
use Rattle.value_operations.proofs.joins.joined.Given as goal

abbrev pub invariant-loop-part : goal.invariant-loop-part
invariant-loop-part l = l.bytes.items ≡ joined (take l.part-index l.parts)
