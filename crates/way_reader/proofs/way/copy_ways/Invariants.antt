use Rattle.std.proofs.Common.{◌≡◌, ◌++◌, drop}
use Rattle.way_reader.proofs.way.copy_ways.Given as goal

-- what is copied, before what is left to copy
abbrev pub invariant-loop-way : goal.invariant-loop-way
invariant-loop-way l = l.row ++ drop l.way-index l.ways ≡ l.ways
