use Rattle.summary_decision.proofs.DecideLemmas.{up_begun}
use Rattle.summary_decision.proofs.running.work.Goals as goal

pub run-requires-clause-up : goal.run-requires-clause-up
run-requires-clause-up g c =
    let q = c.args.question.now in
    up_begun (g.S.Summary.sum_of q.summary.now) (g.S.Summary.composed q.summary.now) (g.S.Summary.is_whole q.summary.now) q.grammar.now.productions.items q.grammar.now.start q.grammar.now.count c.args.table.now c.begin.new.table c.args.taken.now c.requires.none c.requires.spread c.in_ok-begin.ensures.ok
