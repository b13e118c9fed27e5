use Rattle.std.proofs.Common.{◌<◌}
use Rattle.short_sentences.specs.Beginning.{Begins}
use Rattle.short_sentences.proofs.step.Step.begin.Given as goal

abbrev pub invariant-loop-place : goal.invariant-loop-place
invariant-loop-place g l = Begins (g.S.Summary.sum_of l.self.question.now.summary.now) (g.S.Summary.composed l.self.question.now.summary.now) (g.S.Summary.is_whole l.self.question.now.summary.now) l.self.question.now.grammar.now.productions.items l.self.question.now.grammar.now.start l.self.question.now.grammar.now.count l.self.taken.now l.initial.table l.table (λ k. k < l.place)
