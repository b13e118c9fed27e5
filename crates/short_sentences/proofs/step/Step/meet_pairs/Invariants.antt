use Rattle.std.proofs.Common.{◌+◌, length, if◌then◌else◌, nat_lt}
use Rattle.numbered_sets.proofs.WalkLemmas.{HasWalked}
use Rattle.summary_decision.specs.Joints.{first_nonterminals}
use Rattle.short_sentences.specs.Tables.{known}
use Rattle.short_sentences.specs.Joints.{chained, MeetsPairs}
use Rattle.short_sentences.proofs.step.Step.meet_pairs.Given as goal

abbrev pub invariant-loop-before : goal.invariant-loop-before
invariant-loop-before g l =
    HasWalked (first_nonterminals (known l.initial.table l.self.taken.now) (chained l.self.chains.now)) l.fn.partner.0 l.place
    (MeetsPairs (g.S.Summary.sum_of l.self.question.now.summary.now) (g.S.Summary.composed l.self.question.now.summary.now) (g.S.Summary.is_whole l.self.question.now.summary.now) l.self.question.now.grammar.now.productions.items l.self.question.now.grammar.now.start l.self.question.now.grammar.now.count l.self.taken.now l.initial.table l.table l.joint l.sum l.fn.partner.0)

abbrev pub decreases-loop-before : goal.decreases-loop-before
decreases-loop-before g l = if nat_lt l.place (length l.self.chains.now.before.items) then l.place + 1 else 0
