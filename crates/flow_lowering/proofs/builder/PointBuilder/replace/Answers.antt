use Rattle.flow_lowering.proofs.BranchLemmas.{replaces_here}
use Rattle.flow_lowering.proofs.builder.PointBuilder.replace.Goals as goal

pub returns : goal.returns
returns c = replaces_here c.args.self.now.points.items c.args.index c.args.point c.args.self.now.first c.args.self.now.slot
