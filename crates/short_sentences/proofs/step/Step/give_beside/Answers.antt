use Rattle.std.proofs.Common.{subst, sym}
use Rattle.cfg_grammar.specs.declared.symbol.Symbol.{Symbol}
use Rattle.std.specs.Prelude.{OnOk}
use Rattle.short_sentences.specs.Joints.{chained, IsBeside, MeetsSymbol}
use Rattle.short_sentences.proofs.GiveLemmas.{at_beside, gives_beside}
use Rattle.short_sentences.proofs.step.Step.give_beside.Goals as goal

pub meet-requires-clause-beside : goal.meet-requires-clause-beside
meet-requires-clause-beside g c =
    subst (λ (b : Symbol). IsBeside (g.S.Summary.sum_of c.args.self.now.question.now.summary.now) (g.S.Summary.composed c.args.self.now.question.now.summary.now) (g.S.Summary.is_whole c.args.self.now.question.now.summary.now) c.args.self.now.question.now.grammar.now.productions.items c.args.self.now.question.now.grammar.now.start c.args.table.now c.args.self.now.taken.now c.args.joint c.args.sum.now b) (sym c.other.ensures) (at_beside (g.S.Summary.sum_of c.args.self.now.question.now.summary.now) (g.S.Summary.composed c.args.self.now.question.now.summary.now) (g.S.Summary.is_whole c.args.self.now.question.now.summary.now) c.args.self.now.question.now.grammar.now.productions.items c.args.self.now.question.now.grammar.now.start c.args.table.now c.args.self.now.taken.now c.args.joint c.args.sum.now c.args.first c.args.second c.requires.at c.requires.right)

pub returns : goal.returns
returns g c =
    gives_beside (g.S.Summary.sum_of c.args.self.now.question.now.summary.now) (g.S.Summary.composed c.args.self.now.question.now.summary.now) (g.S.Summary.is_whole c.args.self.now.question.now.summary.now) c.args.self.now.question.now.grammar.now.productions.items c.args.self.now.question.now.grammar.now.start c.args.self.now.question.now.grammar.now.count c.args.self.now.taken.now c.meet.result c.args.table.now c.meet.new.table c.args.joint c.args.sum.now (chained c.args.self.now.chains.now) c.args.first c.args.second c.requires.right
    (subst (λ (b : Symbol). OnOk c.meet.result (MeetsSymbol (g.S.Summary.sum_of c.args.self.now.question.now.summary.now) (g.S.Summary.composed c.args.self.now.question.now.summary.now) (g.S.Summary.is_whole c.args.self.now.question.now.summary.now) c.args.self.now.question.now.grammar.now.productions.items c.args.self.now.question.now.grammar.now.start c.args.self.now.question.now.grammar.now.count c.args.self.now.taken.now c.args.table.now c.meet.new.table c.args.joint c.args.sum.now (chained c.args.self.now.chains.now) b)) c.other.ensures c.meet.ensures)
