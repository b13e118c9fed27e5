use Rattle.std.proofs.Common.{rules, refl}
use Rattle.io_edge.specs.Counts.{Rises}
use Rattle.several_files.proofs.Outputs.{replied_so, failed_so, unwritten_so}
use Rattle.several_files.proofs.telling.reply.Goals as goal

pub returns-in-Ok : goal.returns-in-Ok
returns-in-Ok g c = replied_so c.args.message.now _ _ c.as_slice.result.now c.as_slice.ensures c.in-Ok.ensures.ok refl

pub returns-in-Err-Failed : goal.returns-in-Err-Failed
returns-in-Err-Failed g c =
    let fails : Rises (g.O.Sink.faults c.args.out.now) (g.O.Sink.faults c.put.new.self) = search rules in
    failed_so c.args.message.now _ _ c.as_slice.result.now c.as_slice.ensures fails c.in-Err-Failed.ensures.err c.try_put.ensures

pub returns-in-Err-Memory : goal.returns-in-Err-Memory
returns-in-Err-Memory g c = unwritten_so c.args.message.now _ _ c.as_slice.result.now c.as_slice.ensures c.in-Err-Memory.ensures.err c.try_put-in-Err-Memory.ensures
