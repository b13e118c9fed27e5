use Rattle.std.proofs.Common.{length, subst, sym}
use Rattle.cfg_grammar.specs.declared.symbol.Symbol.{Symbol}
use Rattle.std.specs.Prelude.{OnOk}
use Rattle.summary_decision.specs.Joints.{IsBeside, MeetsSymbol}
use Rattle.summary_decision.proofs.TakeLemmas.{at_beside, gives_beside}
use Rattle.summary_decision.proofs.taking.take_beside.Goals as goal

pub meet-requires-clause-beside : goal.meet-requires-clause-beside
meet-requires-clause-beside g c =
    let q = c.args.question.now in
    subst (λ (b : Symbol). IsBeside (g.S.Summary.sum_of q.summary.now) (g.S.Summary.composed q.summary.now) (g.S.Summary.is_whole q.summary.now) q.grammar.now.productions.items q.grammar.now.start c.args.table.now c.args.joint c.args.sum.now b) (sym c.other.ensures) (at_beside (g.S.Summary.sum_of q.summary.now) (g.S.Summary.composed q.summary.now) (g.S.Summary.is_whole q.summary.now) q.grammar.now.productions.items q.grammar.now.start c.args.table.now c.args.joint c.args.sum.now c.args.first c.args.second c.requires.at c.requires.right)

pub returns-clause-ok : goal.returns-clause-ok
returns-clause-ok g c =
    let q = c.args.question.now in
    gives_beside (g.S.Summary.sum_of q.summary.now) (g.S.Summary.composed q.summary.now) (g.S.Summary.is_whole q.summary.now) q.grammar.now.productions.items q.grammar.now.start q.grammar.now.count c.meet.result c.args.table.now c.meet.new.table c.args.joint c.args.sum.now (length c.args.taken.now.chains.before.items) c.args.first c.args.second c.requires.right
    (subst (λ (b : Symbol). OnOk c.meet.result (MeetsSymbol (g.S.Summary.sum_of q.summary.now) (g.S.Summary.composed q.summary.now) (g.S.Summary.is_whole q.summary.now) q.grammar.now.productions.items q.grammar.now.start q.grammar.now.count c.args.table.now c.meet.new.table c.args.joint c.args.sum.now (length c.args.taken.now.chains.before.items) b)) c.other.ensures c.meet.ensures.ok)
