use Rattle.std.proofs.Common.{◌≡◌, ◌≤◌, length, take}
use Rattle.value_operations.specs.Joined.{joined}
use Rattle.value_operations.proofs.joins.join.Given as goal

abbrev pub invariant-loop-part : goal.invariant-loop-part
invariant-loop-part l = (l.total ≡ length (joined (take l.part-index l.parts))) × (l.total ≤ 16777216)
