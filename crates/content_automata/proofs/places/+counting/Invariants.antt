use Rattle.std.proofs.Common.{◌≡◌, ◌+◌, drop}
use Rattle.dtd_model.specs.Table.{models_in}
use Rattle.content_automata.specs.Positions.{positions_in}
use Rattle.content_automata.proofs.places.+counting.Given as goal

abbrev pub invariant-positions_in-loop-part : goal.invariant-positions_in-loop-part
invariant-positions_in-loop-part l = l.sum + positions_in (models_in (drop l.part-index l.parts)) ≡ positions_in (models_in l.parts)
