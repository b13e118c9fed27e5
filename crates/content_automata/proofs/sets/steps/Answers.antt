use Rattle.content_automata.proofs.SetLemmas.{steps_made}
use Rattle.content_automata.proofs.sets.steps.Goals as goal

pub returns : goal.returns
returns c =
    steps_made c.args.places.now c.args.set.now _ c.args.elements c.in_ok-slots.slots.items c.deref-slot-items.result.now _ _ c.loop-slot.invariant c.loop-slot-test.false c.deref-slot-items.ensures.value c.in_ok-slots.ensures c.members.ensures.members
