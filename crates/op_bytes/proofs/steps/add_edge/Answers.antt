use Rattle.std.proofs.Common.{◌<◌, length, arith}
use Rattle.op_bytes.proofs.EdgeLemmas.{adds_edge}
use Rattle.op_bytes.proofs.steps.add_edge.Goals as goal

pub returns-clause-adds : goal.returns-clause-adds
returns-clause-adds c =
    let within : c.args.from.0 < length c.args.edges.now.items = omega (arith, c.args.edges.now.ok.0) in
    adds_edge c.args.edges.now.items c.args.from.0 c.args.to.0 c.index_mut.result.now c.push.new.self within c.index_mut.ensures.value c.in_ok-push.ensures.ok
