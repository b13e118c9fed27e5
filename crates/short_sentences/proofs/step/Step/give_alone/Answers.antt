use Rattle.std.proofs.Common.{arith}
use Rattle.short_sentences.specs.Joints.{chained}
use Rattle.short_sentences.proofs.GiveLemmas.{alone_makes, gives_alone, second_alone}
use Rattle.short_sentences.proofs.NoteLemmas.{entry_told, entry_within}
use Rattle.short_sentences.proofs.step.Step.give_alone.Goals as goal

pub index-requires : goal.index-requires
index-requires g c =
    let l = entry_within c.args.table.now.sums.numbered.keys c.args.self.now.taken.now.entries.items c.args.joint.pair _ c.requires.table.taken_numbered c.requires.at.pair in
    omega (arith, l, c.args.self.now.taken.now.entries.ok.0)

pub add_known-requires-clause-makes : goal.add_known-requires-clause-makes
add_known-requires-clause-makes g c =
    let told = entry_told c.args.table.now.sums.numbered.keys c.args.self.now.taken.now.entries.items c.args.joint.pair _ c.index.result.now c.requires.table.taken_numbered c.requires.at.pair c.index.ensures in
    (c.args.sum.now, told.1, alone_makes (g.S.Summary.sum_of c.args.self.now.question.now.summary.now) (g.S.Summary.composed c.args.self.now.question.now.summary.now) (g.S.Summary.is_whole c.args.self.now.question.now.summary.now) c.args.self.now.question.now.grammar.now.productions.items c.args.self.now.question.now.grammar.now.start c.args.self.now.question.now.grammar.now.count c.args.self.now.taken.now c.args.table.now c.args.joint c.args.sum.now c.args.symbol c.in-First.is c.requires.table c.requires.at c.requires.right)

pub returns-in-First : goal.returns-in-First
returns-in-First g c =
    let told = entry_told c.args.table.now.sums.numbered.keys c.args.self.now.taken.now.entries.items c.args.joint.pair _ c.index.result.now c.requires.table.taken_numbered c.requires.at.pair c.index.ensures in
    gives_alone (g.S.Summary.sum_of c.args.self.now.question.now.summary.now) (g.S.Summary.composed c.args.self.now.question.now.summary.now) (g.S.Summary.is_whole c.args.self.now.question.now.summary.now) c.args.self.now.question.now.grammar.now.productions.items c.args.self.now.question.now.grammar.now.start c.args.self.now.question.now.grammar.now.count c.args.self.now.taken.now c.add_known.result c.args.table.now c.add_known.new.table c.args.joint c.args.sum.now c.index.result.now.sum (chained c.args.self.now.chains.now) c.args.symbol told.1 c.in-First.is c.requires.right c.add_known.ensures

pub returns-in-Second : goal.returns-in-Second
returns-in-Second g c =
    second_alone (g.S.Summary.sum_of c.args.self.now.question.now.summary.now) (g.S.Summary.composed c.args.self.now.question.now.summary.now) (g.S.Summary.is_whole c.args.self.now.question.now.summary.now) c.args.self.now.question.now.grammar.now.productions.items c.args.self.now.question.now.grammar.now.start c.args.self.now.question.now.grammar.now.count c.args.self.now.taken.now c.args.table.now c.args.joint c.args.sum.now (chained c.args.self.now.chains.now) c.args.symbol c.in-Second.is c.requires.table c.requires.right
