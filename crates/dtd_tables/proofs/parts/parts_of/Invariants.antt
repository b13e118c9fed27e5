use Rattle.std.proofs.Common.{map, take}
use Rattle.dtd_entities.specs.Positions.{written_of}
use Rattle.dtd_tables.specs.Views.{AreParts}
use Rattle.dtd_tables.proofs.parts.parts_of.Given as goal

abbrev pub invariant-loop-one : goal.invariant-loop-one
invariant-loop-one l = AreParts l.names (map written_of (take l.one-index l.written)) l.parts
