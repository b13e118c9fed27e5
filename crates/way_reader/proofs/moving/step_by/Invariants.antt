use Rattle.std.proofs.Common.{◌≡◌, drop}
use Rattle.way_reader.specs.Ways.{ended}
use Rattle.way_reader.proofs.moving.step_by.Given as goal

-- what is left decides
abbrev pub invariant-loop-way : goal.invariant-loop-way
invariant-loop-way l = ended l.arena (drop l.way-index l.way-items) ≡ ended l.arena l.fn.ways
