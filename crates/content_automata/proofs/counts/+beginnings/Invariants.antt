use Rattle.std.proofs.Common.{◌≡◌, ◌+◌, drop}
use Rattle.dtd_model.specs.Table.{models_in}
use Rattle.content_automata.specs.Counts.{ahead, beginnings_of_each}
use Rattle.content_automata.proofs.counts.+beginnings.Given as goal

abbrev pub invariant-ahead-loop-part : goal.invariant-ahead-loop-part
invariant-ahead-loop-part l = l.sum + ahead (models_in (drop l.part-index l.parts)) 0 ≡ ahead (models_in l.parts) 0

abbrev pub invariant-beginnings_of_each-loop-part : goal.invariant-beginnings_of_each-loop-part
invariant-beginnings_of_each-loop-part l = l.sum + beginnings_of_each (models_in (drop l.part-index l.parts)) ≡ beginnings_of_each (models_in l.parts)
