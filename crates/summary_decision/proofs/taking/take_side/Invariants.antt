use Rattle.std.proofs.Common.{◌+◌, length, if◌then◌else◌, nat_lt}
use Rattle.numbered_sets.proofs.WalkLemmas.{HasWalked}
use Rattle.summary_decision.specs.Joints.{taken_count, AreUses, Gives}
use Rattle.summary_decision.proofs.taking.take_side.Given as goal

abbrev pub invariant-loop-before : goal.invariant-loop-before
invariant-loop-before g l =
    (are : AreUses l.side l.question.grammar.now.productions.items l.question.grammar.now.start l.question.grammar.now.count l.uses)
    → HasWalked are.keys l.nonterminal l.place
    (Gives (g.S.Summary.sum_of l.question.summary.now) (g.S.Summary.composed l.question.summary.now) (g.S.Summary.is_whole l.question.summary.now) l.question.grammar.now.productions.items l.question.grammar.now.start l.question.grammar.now.count l.initial.table l.table l.side l.sum (taken_count l.taken))

abbrev pub decreases-loop-before : goal.decreases-loop-before
decreases-loop-before g l = if nat_lt l.place (length l.uses.before.items) then l.place + 1 else 0
