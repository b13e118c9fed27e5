use Rattle.std.proofs.Common.{◌+◌, length, if◌then◌else◌, nat_lt}
use Rattle.numbered_sets.proofs.WalkLemmas.{HasWalked}
use Rattle.summary_decision.specs.Tables.{known}
use Rattle.summary_decision.specs.Joints.{first_nonterminals, taken_count, MeetsPairs}
use Rattle.summary_decision.proofs.meeting.meet_pairs.Given as goal

abbrev pub invariant-loop-before : goal.invariant-loop-before
invariant-loop-before g l =
    HasWalked (first_nonterminals (known l.initial.table) (taken_count l.taken)) l.fn.partner.0 l.place
    (MeetsPairs (g.S.Summary.sum_of l.question.summary.now) (g.S.Summary.composed l.question.summary.now) (g.S.Summary.is_whole l.question.summary.now) l.question.grammar.now.productions.items l.question.grammar.now.start l.question.grammar.now.count l.initial.table l.table l.joint l.sum l.fn.partner.0)

abbrev pub decreases-loop-before : goal.decreases-loop-before
decreases-loop-before g l = if nat_lt l.place (length l.taken.chains.before.items) then l.place + 1 else 0
