use Rattle.std.proofs.Common.{◌≡◌, ◌++◌, drop}
use Rattle.dtd_model.specs.Table.{models_in}
use Rattle.content_automata.specs.Positions.{firsts_in_turn, firsts_of_each}
use Rattle.content_automata.proofs.places.+beginning.Given as goal

abbrev pub invariant-push_firsts_in_turn-loop-part : goal.invariant-push_firsts_in_turn-loop-part
invariant-push_firsts_in_turn-loop-part l = l.out.items ++ firsts_in_turn l.at (models_in (drop l.part-index l.parts)) ≡ l.fn.out.items ++ firsts_in_turn l.base (models_in l.parts)

abbrev pub invariant-push_firsts_of_each-loop-part : goal.invariant-push_firsts_of_each-loop-part
invariant-push_firsts_of_each-loop-part l = l.out.items ++ firsts_of_each l.at (models_in (drop l.part-index l.parts)) ≡ l.fn.out.items ++ firsts_of_each l.base (models_in l.parts)
