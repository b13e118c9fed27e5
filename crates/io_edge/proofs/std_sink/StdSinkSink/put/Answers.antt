use Rattle.std.proofs.Common.{rules}
use Rattle.io_edge.proofs.Grown.{Appends-take}
use Rattle.io_edge.proofs.std_sink.StdSinkSink.put.Goals as goal

pub loop-at-preserved : goal.loop-at-preserved
loop-at-preserved g c = let (_, appended, same) = c.loop-at.invariant in
    (search rules, Appends-take _ _ _ _ _ _ appended c.in-Some.ensures.some.2, search rules)
