use Rattle.std.proofs.Common.{◌≡◌, map, take, length}
use Rattle.content_automata.specs.PlaceViews.{slot_of, slot_set}
use Rattle.content_automata.proofs.sets.steps.Given as goal

abbrev pub invariant-loop-slot : goal.invariant-loop-slot
invariant-loop-slot l = l.sets.items ≡ map (slot_set (length l.places)) (map slot_of (take l.slot-index l.slot-items))
