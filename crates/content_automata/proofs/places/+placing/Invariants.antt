use Rattle.std.proofs.Common.{◌≡◌, ◌++◌, drop}
use Rattle.dtd_model.specs.Table.{models_in}
use Rattle.content_automata.specs.Positions.{places_in_turn, places_of_each}
use Rattle.content_automata.specs.PlaceViews.{next_of, positions_of}
use Rattle.content_automata.proofs.places.+placing.Given as goal

abbrev pub invariant-push_places_in_turn-loop-i : goal.invariant-push_places_in_turn-loop-i
invariant-push_places_in_turn-loop-i l =
    positions_of l.places.items ++ places_in_turn l.at (models_in (drop l.i l.parts)) (next_of l.next) ≡ positions_of l.fn.places.items ++ places_in_turn l.base (models_in l.parts) (next_of l.next)

abbrev pub invariant-push_places_of_each-loop-i : goal.invariant-push_places_of_each-loop-i
invariant-push_places_of_each-loop-i l =
    positions_of l.places.items ++ places_of_each l.at (models_in (drop l.i l.parts)) (next_of l.next) ≡ positions_of l.fn.places.items ++ places_of_each l.base (models_in l.parts) (next_of l.next)
