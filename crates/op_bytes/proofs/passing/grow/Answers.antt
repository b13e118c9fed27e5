use Rattle.op_bytes.proofs.GrowLemmas.{grow_more}
use Rattle.op_bytes.proofs.passing.grow.Goals as goal

pub returns : goal.returns
returns c = grow_more c.args.sets.now.items c.args.order.now.items c.push.new.self.items c.args.target c.index_mut.result.now c.join.new.self c.args.extra.now c.requires c.index_mut.ensures.value c.join.ensures c.in_ok-push.ensures.items
