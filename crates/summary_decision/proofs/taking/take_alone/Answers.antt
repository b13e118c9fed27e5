use Rattle.std.proofs.Common.{length, arith}
use Rattle.summary_decision.proofs.TakeLemmas.{alone_makes, gives_alone, second_alone}
use Rattle.summary_decision.proofs.taking.take_alone.Goals as goal

pub sum_number-number-requires-clause-numbered : goal.sum_number-number-requires-clause-numbered
sum_number-number-requires-clause-numbered g c = c.requires.table.numbered

pub sum_number-number-requires-clause-within : goal.sum_number-number-requires-clause-within
sum_number-number-requires-clause-within g c = omega (arith, c.requires.at.within, c.requires.table.bounded)

pub add_known-requires-clause-makes : goal.add_known-requires-clause-makes
add_known-requires-clause-makes g c =
    let q = c.args.question.now in
    (c.args.sum.now, c.sum_number-number.ensures.sum _ c.requires.at.pair, alone_makes (g.S.Summary.sum_of q.summary.now) (g.S.Summary.composed q.summary.now) (g.S.Summary.is_whole q.summary.now) q.grammar.now.productions.items q.grammar.now.start q.grammar.now.count c.args.table.now c.args.joint c.args.sum.now c.args.symbol c.in-First.is c.requires.table c.requires.at c.requires.right)

pub returns-in-First-clause-ok : goal.returns-in-First-clause-ok
returns-in-First-clause-ok g c =
    let q = c.args.question.now in
    gives_alone (g.S.Summary.sum_of q.summary.now) (g.S.Summary.composed q.summary.now) (g.S.Summary.is_whole q.summary.now) q.grammar.now.productions.items q.grammar.now.start q.grammar.now.count c.add_known.result c.args.table.now c.add_known.new.table c.args.joint c.args.sum.now c.sum_number-number.result (length c.args.taken.now.chains.before.items) c.args.symbol (c.sum_number-number.ensures.sum _ c.requires.at.pair) c.in-First.is c.requires.right c.add_known.ensures.ok

pub returns-in-Second-clause-ok : goal.returns-in-Second-clause-ok
returns-in-Second-clause-ok g c =
    let q = c.args.question.now in
    second_alone (g.S.Summary.sum_of q.summary.now) (g.S.Summary.composed q.summary.now) (g.S.Summary.is_whole q.summary.now) q.grammar.now.productions.items q.grammar.now.start q.grammar.now.count c.args.table.now c.args.joint c.args.sum.now (length c.args.taken.now.chains.before.items) c.args.symbol c.in-Second.is c.requires.table c.requires.right
