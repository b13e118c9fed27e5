use Rattle.std.proofs.Common.{arith}
use Rattle.way_reader.proofs.Runs.{at_first, at_last}
use Rattle.way_reader.proofs.running.last_of.Goals as goal

pub loop-way-init : goal.loop-way-init
loop-way-init c = record { decides = at_first c.args.arena.now c.args.byte c.args.ways.now; small = omega arith }

pub returns : goal.returns
returns c = at_last c.args.arena.now c.args.byte c.args.ways.now c.loop-way.last c.loop-way.way-index (omega (arith, c.loop-way-test.false)) c.loop-way.invariant.decides c.loop-way.invariant.small
