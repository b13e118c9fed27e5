use Rattle.derivatives.proofs.EachOnce.{each_once}
use Rattle.derivatives.proofs.arena.Arena.len.Goals as goal

pub returns-clause-once : goal.returns-clause-once
returns-clause-once c = each_once c.args.self.now c.count.ensures.different
