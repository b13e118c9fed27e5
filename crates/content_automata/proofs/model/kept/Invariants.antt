use Rattle.std.proofs.Common.{◌≡◌, map, take}
use Rattle.content_automata.specs.Shapes as spec
use Rattle.content_automata.proofs.model.kept.Given as goal

abbrev pub invariant-loop-stay : goal.invariant-loop-stay
invariant-loop-stay l = l.states.items ≡ map (spec.kept l.flags) (take l.stay-index l.stays)
