use Rattle.std.proofs.Common.{◌<◌}
use Rattle.summary_decision.specs.Beginning.{Begins}
use Rattle.summary_decision.proofs.beginning.begin.Given as goal

abbrev pub invariant-loop-place : goal.invariant-loop-place
invariant-loop-place g l =
    Begins (g.S.Summary.sum_of l.question.summary.now) (g.S.Summary.composed l.question.summary.now) (g.S.Summary.is_whole l.question.summary.now) l.question.grammar.now.productions.items l.question.grammar.now.start l.question.grammar.now.count l.initial.table l.table (λ k. k < l.place)
