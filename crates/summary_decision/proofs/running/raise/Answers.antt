use Rattle.std.proofs.Common.{arith}
use Rattle.summary_decision.proofs.RunLemmas.{raised_same, raised_higher}
use Rattle.summary_decision.proofs.running.raise.Goals as goal

pub returns-then-taken-table : goal.returns-then-taken-table
returns-then-taken-table g c = raised_same c.args.taken c.args.table.now c.if-taken-table.true

pub overflow_add-table : goal.overflow_add-table
overflow_add-table g c = omega (arith, c.requires.raised, c.if-taken-table.false, c.requires.within, c.count-end.ensures.length, c.count-end.ensures.small)

pub returns : goal.returns
returns g c = raised_higher c.args.taken c.count-end.result c.args.table.now c.if-taken-table.false c.count-end.ensures.length
