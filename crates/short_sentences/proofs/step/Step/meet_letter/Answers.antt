use Rattle.std.proofs.Common.{Option, subst, ap, arith}
use Rattle.derivations.specs.declared.node.Part.TheVariants as part
use Rattle.derivations.specs.Nodes.{parts_length}
use Rattle.summary_decision.specs.declared.letters.Piece.{Piece}
use Rattle.summary_decision.specs.Joints.{IsLetterOf, parts_by, composed_by}
use Rattle.short_sentences.proofs.JointLemmas.{beside_late, letter_makes, makes_along, meets_letter}
use Rattle.short_sentences.proofs.step.Step.meet_letter.Goals as goal

pub add-requires-clause-makes : goal.add-requires-clause-makes
add-requires-clause-makes g c =
    let is = subst (λ (o : Option (Piece _)). IsLetterOf (g.S.Summary.sum_of c.args.self.now.question.now.summary.now) c.args.symbol o) c.in-Some.is c.in_ok-piece.ensures in
    makes_along (g.S.Summary.sum_of c.args.self.now.question.now.summary.now) (g.S.Summary.composed c.args.self.now.question.now.summary.now) (g.S.Summary.is_whole c.args.self.now.question.now.summary.now) c.args.self.now.question.now.grammar.now.productions.items c.args.self.now.question.now.grammar.now.start c.args.self.now.question.now.grammar.now.count c.args.self.now.taken.now c.args.joint.place (parts_by c.args.joint.side (part.Inner c.args.joint.pair) c.in-Some.piece.part) c.parts-parts.result (composed_by (g.S.Summary.composed c.args.self.now.question.now.summary.now) c.args.joint.side c.args.sum.now c.in-Some.piece.sum) c.in_ok-joined.joined c.parts-parts.ensures c.in_ok-joined.ensures
    (letter_makes (g.S.Summary.sum_of c.args.self.now.question.now.summary.now) (g.S.Summary.composed c.args.self.now.question.now.summary.now) (g.S.Summary.is_whole c.args.self.now.question.now.summary.now) c.args.self.now.question.now.grammar.now.productions.items c.args.self.now.question.now.grammar.now.start c.args.self.now.question.now.grammar.now.count c.args.self.now.taken.now c.args.table.now c.args.joint c.args.sum.now c.args.symbol c.in-Some.piece c.requires.table c.requires.beside is)

pub add-requires-clause-late : goal.add-requires-clause-late
add-requires-clause-late g c =
    let l = beside_late (g.S.Summary.sum_of c.args.self.now.question.now.summary.now) (g.S.Summary.composed c.args.self.now.question.now.summary.now) (g.S.Summary.is_whole c.args.self.now.question.now.summary.now) c.args.self.now.question.now.grammar.now.productions.items c.args.self.now.question.now.grammar.now.start c.args.self.now.question.now.grammar.now.count c.args.self.now.taken.now c.args.table.now c.args.joint c.args.sum.now c.args.symbol c.in-Some.piece.part c.requires.table c.requires.beside in
    let e = ap (parts_length c.args.self.now.taken.now.nodes.nodes.items) c.parts-parts.ensures in
    omega (arith, l, e)

pub returns : goal.returns
returns g c =
    let is = subst (λ (o : Option (Piece _)). IsLetterOf (g.S.Summary.sum_of c.args.self.now.question.now.summary.now) c.args.symbol o) c.in-Some.is c.in_ok-piece.ensures in
    meets_letter (g.S.Summary.sum_of c.args.self.now.question.now.summary.now) (g.S.Summary.composed c.args.self.now.question.now.summary.now) (g.S.Summary.is_whole c.args.self.now.question.now.summary.now) c.args.self.now.question.now.grammar.now.productions.items c.args.self.now.question.now.grammar.now.start c.args.self.now.question.now.grammar.now.count c.args.self.now.taken.now c.add.result c.args.table.now c.add.new.table c.args.joint c.args.sum.now c.args.symbol c.in-Some.piece c.parts-parts.result c.in_ok-joined.joined c.parts-parts.ensures c.in_ok-joined.ensures is c.add.ensures
