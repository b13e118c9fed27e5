use Rattle.content_automata.proofs.PartLemmas.{last_in_turn, put_last}
use Rattle.content_automata.proofs.places.+placing.Goals as goal

pub push_places_in_turn-returns-then-i-parts : goal.push_places_in_turn-returns-then-i-parts
push_places_in_turn-returns-then-i-parts n c =
    put_last c.push_places.result _ _ _ _ _ c.push_places.ensures (last_in_turn c.args.parts.now c.loop-i.i c.loop-i.at _ c.args.next c.loop-i-test.true c.index-parts-i.is c.if-i-parts.true) c.loop-i.invariant
