use Rattle.std.proofs.Common.{length}
use Rattle.summary_decision.proofs.TakeLemmas.{empty_gives, right_read}
use Rattle.summary_decision.proofs.taking.take_at.Goals as goal

pub returns-in-Empty-clause-ok : goal.returns-in-Empty-clause-ok
returns-in-Empty-clause-ok g c =
    let q = c.args.question.now in
    empty_gives (g.S.Summary.sum_of q.summary.now) (g.S.Summary.composed q.summary.now) (g.S.Summary.is_whole q.summary.now) q.grammar.now.productions.items q.grammar.now.start q.grammar.now.count c.args.table.now c.args.joint c.args.sum.now (length c.args.taken.now.chains.before.items) c.requires.table
    (right_read q.grammar.now.productions.items c.args.joint.place c.index.result.now _ c.index.ensures c.in-Empty.is)

pub take_alone-requires-clause-right : goal.take_alone-requires-clause-right
take_alone-requires-clause-right g c =
    let q = c.args.question.now in
    right_read q.grammar.now.productions.items c.args.joint.place c.index.result.now _ c.index.ensures c.in-One.is

pub take_beside-requires-clause-right : goal.take_beside-requires-clause-right
take_beside-requires-clause-right g c =
    let q = c.args.question.now in
    right_read q.grammar.now.productions.items c.args.joint.place c.index.result.now _ c.index.ensures c.in-Two.is
