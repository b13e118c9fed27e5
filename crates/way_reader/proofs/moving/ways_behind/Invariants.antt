use Rattle.std.proofs.Common.{◌≡◌, ◌++◌, drop}
use Rattle.way_reader.specs.Ways.{ways_behind}
use Rattle.way_reader.proofs.moving.ways_behind.Given as goal

-- what is put there, before what is left to put
abbrev pub invariant-loop-way : goal.invariant-loop-way
invariant-loop-way l = l.row ++ ways_behind l.taking.arena.now l.taking.byte (drop l.way-index l.ways) ≡ ways_behind l.taking.arena.now l.taking.byte l.ways
