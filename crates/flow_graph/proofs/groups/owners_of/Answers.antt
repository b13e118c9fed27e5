use Rattle.flow_graph.proofs.GroupLemmas.{more_owners}
use Rattle.flow_graph.proofs.groups.owners_of.Goals as goal

pub loop-item-preserved : goal.loop-item-preserved
loop-item-preserved c =
    more_owners c.args.all.now c.loop-item.keys.keys c.number.new.keys.keys c.loop-item.owners.items c.push.new.self.items c.loop-item.item-index _ c.in_ok-number.number c.loop-item-test.true c.loop-item.invariant
    c.in_ok-number.ensures.keeps c.in_ok-number.ensures.number c.in_ok-push.ensures.items
