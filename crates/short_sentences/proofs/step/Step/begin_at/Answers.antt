use Rattle.std.proofs.Common.{Option, subst, arith}
use Rattle.derivations.specs.declared.node.Parts.{Parts}
use Rattle.short_sentences.specs.Beginning.{IsMadeOf}
use Rattle.short_sentences.proofs.BeginLemmas.{begins_made, begins_unmade, made_at}
use Rattle.short_sentences.proofs.step.Step.begin_at.Goals as goal

pub returns-in_default : goal.returns-in_default
returns-in_default g c =
    let is = subst (λ (o : Option (Parts × g.row.S-Sum.Denot)). IsMadeOf (g.S.Summary.sum_of c.args.self.now.question.now.summary.now) (g.S.Summary.composed c.args.self.now.question.now.summary.now) (g.S.Summary.is_whole c.args.self.now.question.now.summary.now) c.args.self.now.question.now.grammar.now.productions.items c.args.self.now.question.now.grammar.now.start c.args.right o) c.in_default.is c.in_ok-parts.ensures in
    begins_unmade (g.S.Summary.sum_of c.args.self.now.question.now.summary.now) (g.S.Summary.composed c.args.self.now.question.now.summary.now) (g.S.Summary.is_whole c.args.self.now.question.now.summary.now) c.args.self.now.question.now.grammar.now.productions.items c.args.self.now.question.now.grammar.now.start c.args.self.now.question.now.grammar.now.count c.args.self.now.taken.now c.args.table.now c.args.place c.args.right c.requires.table is c.requires.stands

pub add-requires-clause-makes : goal.add-requires-clause-makes
add-requires-clause-makes g c =
    let is = subst (λ (o : Option (Parts × g.row.S-Sum.Denot)). IsMadeOf (g.S.Summary.sum_of c.args.self.now.question.now.summary.now) (g.S.Summary.composed c.args.self.now.question.now.summary.now) (g.S.Summary.is_whole c.args.self.now.question.now.summary.now) c.args.self.now.question.now.grammar.now.productions.items c.args.self.now.question.now.grammar.now.start c.args.right o) c.in-Some.is c.in_ok-parts.ensures in
    made_at (g.S.Summary.sum_of c.args.self.now.question.now.summary.now) (g.S.Summary.composed c.args.self.now.question.now.summary.now) (g.S.Summary.is_whole c.args.self.now.question.now.summary.now) c.args.self.now.question.now.grammar.now.productions.items c.args.self.now.question.now.grammar.now.start c.args.self.now.taken.now.nodes.nodes.items c.args.place c.args.right (c.in-Some.parts, c.in-Some.sum) is c.requires.stands

pub add-requires-clause-late : goal.add-requires-clause-late
add-requires-clause-late g c = omega (arith, c.requires.none)

pub returns : goal.returns
returns g c =
    let is = subst (λ (o : Option (Parts × g.row.S-Sum.Denot)). IsMadeOf (g.S.Summary.sum_of c.args.self.now.question.now.summary.now) (g.S.Summary.composed c.args.self.now.question.now.summary.now) (g.S.Summary.is_whole c.args.self.now.question.now.summary.now) c.args.self.now.question.now.grammar.now.productions.items c.args.self.now.question.now.grammar.now.start c.args.right o) c.in-Some.is c.in_ok-parts.ensures in
    begins_made (g.S.Summary.sum_of c.args.self.now.question.now.summary.now) (g.S.Summary.composed c.args.self.now.question.now.summary.now) (g.S.Summary.is_whole c.args.self.now.question.now.summary.now) c.args.self.now.question.now.grammar.now.productions.items c.args.self.now.question.now.grammar.now.start c.args.self.now.question.now.grammar.now.count c.args.self.now.taken.now c.add.result c.args.table.now c.add.new.table c.args.place c.args.right (c.in-Some.parts, c.in-Some.sum) is c.requires.stands c.add.ensures
