use Rattle.std.proofs.Common.{◌≡◌, ◌++◌, drop}
use Rattle.way_reader.specs.Ways.{ways_by}
use Rattle.way_reader.proofs.moving.push_behind.Given as goal

-- what is put there, before what is left to put
abbrev pub invariant-loop-parts : goal.invariant-loop-parts
invariant-loop-parts l = l.ways ++ ways_by l.way (drop l.parts-index l.parts-items) ≡ l.fn.ways ++ ways_by l.way l.parts-items
