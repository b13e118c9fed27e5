use Rattle.content_automata.proofs.BuildLemmas.{owners_more}
use Rattle.content_automata.proofs.contents.owners_of.Goals as goal

pub loop-number-preserved : goal.loop-number-preserved
loop-number-preserved c = owners_more _ _ c.in-Some.key.now _ _ c.in-Some.ensures.key c.loop-number.invariant c.in_ok-push-in-Some.ensures.items
