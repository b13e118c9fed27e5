use Rattle.std.proofs.Common.{◌≡◌, map, take}
use Rattle.std.specs.List.{range_with_len}
use Rattle.content_automata.specs.PlaceViews.{positions_of, slot_of, behind_of}
use Rattle.content_automata.proofs.sets.gathered.Given as goal

abbrev pub invariant-loop-member : goal.invariant-loop-member
invariant-loop-member l = map slot_of l.slots.items ≡ map (behind_of (positions_of l.places) (take l.member-index l.members)) (range_with_len 0 l.elements)
