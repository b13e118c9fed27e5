use Rattle.std.proofs.Common.{◌-◌, length}
use Rattle.short_sentences.specs.Taking.{AreUp}
use Rattle.short_sentences.proofs.running.run.Given as goal

abbrev pub invariant-loop-place : goal.invariant-loop-place
invariant-loop-place g l = AreUp (g.S.Summary.sum_of l.question.summary.now) (g.S.Summary.composed l.question.summary.now) (g.S.Summary.is_whole l.question.summary.now) l.question.grammar.now.productions.items l.question.grammar.now.start l.question.grammar.now.count l.table l.taken l.chains

abbrev pub decreases-loop-place : goal.decreases-loop-place
decreases-loop-place g l = 18446744073709551616 - length l.taken.entries.items
