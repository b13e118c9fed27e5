use Rattle.std.proofs.Common.{◌≡◌, None, map}
use Rattle.std.specs.Prelude.{replicate}
use Rattle.content_automata.specs.PlaceViews.{slot_of}
use Rattle.content_automata.proofs.sets.nothing.Given as goal

abbrev pub invariant-loop-element : goal.invariant-loop-element
invariant-loop-element l = map slot_of l.slots.items ≡ replicate l._element None
