use Rattle.std.proofs.Common.{map, take}
use Rattle.dtd_entities.specs.Positions.{written_of}
use Rattle.dtd_tables.proofs.PartLemmas.{NoneSo}
use Rattle.dtd_tables.proofs.parts.refused_among.Given as goal

abbrev pub invariant-loop-one : goal.invariant-loop-one
invariant-loop-one l = NoneSo l.names (map written_of (take l.one-index l.written))
