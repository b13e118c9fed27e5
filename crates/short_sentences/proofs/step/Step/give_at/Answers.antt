use Rattle.short_sentences.specs.Joints.{chained}
use Rattle.summary_decision.proofs.TakeLemmas.{right_read}
use Rattle.short_sentences.proofs.GiveLemmas.{empty_gives}
use Rattle.short_sentences.proofs.step.Step.give_at.Goals as goal

pub returns-in-Empty : goal.returns-in-Empty
returns-in-Empty g c =
    empty_gives (g.S.Summary.sum_of c.args.self.now.question.now.summary.now) (g.S.Summary.composed c.args.self.now.question.now.summary.now) (g.S.Summary.is_whole c.args.self.now.question.now.summary.now) c.args.self.now.question.now.grammar.now.productions.items c.args.self.now.question.now.grammar.now.start c.args.self.now.question.now.grammar.now.count c.args.self.now.taken.now c.args.table.now c.args.joint c.args.sum.now (chained c.args.self.now.chains.now) c.requires.table
    (right_read c.args.self.now.question.now.grammar.now.productions.items c.args.joint.place c.index.result.now _ c.index.ensures c.in-Empty.is)

pub give_alone-requires-clause-right : goal.give_alone-requires-clause-right
give_alone-requires-clause-right g c = right_read c.args.self.now.question.now.grammar.now.productions.items c.args.joint.place c.index.result.now _ c.index.ensures c.in-One.is

pub give_beside-requires-clause-right : goal.give_beside-requires-clause-right
give_beside-requires-clause-right g c = right_read c.args.self.now.question.now.grammar.now.productions.items c.args.joint.place c.index.result.now _ c.index.ensures c.in-Two.is
