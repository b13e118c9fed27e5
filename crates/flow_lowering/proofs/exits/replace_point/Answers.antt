use Rattle.flow_lowering.proofs.ReplaceLemmas.{replaced_there}
use Rattle.flow_lowering.proofs.exits.replace_point.Goals as goal

pub returns-then-index-len : goal.returns-then-index-len
returns-then-index-len c = replaced_there c.args.points.now.first c.args.points.now.slot c.args.points.now.points.items c.args.index c.args.point
