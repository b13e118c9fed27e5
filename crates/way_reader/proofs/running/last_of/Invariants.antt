use Rattle.std.proofs.Common.{◌≡◌, ◌≤◌, drop}
use Rattle.std.specs.Prelude.{min}
use Rattle.way_reader.specs.Classes.{last_of}
use Rattle.way_reader.proofs.running.last_of.Given as goal

-- what is left decides
abbrev pub invariant-loop-way : goal.invariant-loop-way
invariant-loop-way l = record { decides : min l.last (last_of l.arena l.byte (drop l.way-index l.ways)) ≡ last_of l.arena l.byte l.ways; small : l.last ≤ 255 }
