use Rattle.std.proofs.Common.{◌-◌}
use Rattle.summary_decision.specs.Joints.{taken_count}
use Rattle.summary_decision.specs.Taking.{AreUp}
use Rattle.summary_decision.proofs.running.run.Given as goal

abbrev pub invariant-loop-table : goal.invariant-loop-table
invariant-loop-table g l =
    AreUp (g.S.Summary.sum_of l.question.summary.now) (g.S.Summary.composed l.question.summary.now) (g.S.Summary.is_whole l.question.summary.now) l.question.grammar.now.productions.items l.question.grammar.now.start l.question.grammar.now.count l.table l.taken

abbrev pub decreases-loop-table : goal.decreases-loop-table
decreases-loop-table g l = 9223372036854775808 - taken_count l.taken
