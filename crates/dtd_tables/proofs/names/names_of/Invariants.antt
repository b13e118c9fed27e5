use Rattle.std.proofs.Common.{map, drop}
use Rattle.dtd_entities.specs.Positions.{written_of}
use Rattle.dtd_tables.proofs.NameLemmas.{AreNames}
use Rattle.dtd_tables.proofs.names.names_of.Given as goal

abbrev pub invariant-loop-one : goal.invariant-loop-one
invariant-loop-one l = AreNames l.names (map written_of (drop l.one-index l.written)) (map written_of l.written)
