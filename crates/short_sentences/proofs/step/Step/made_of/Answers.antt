use Rattle.std.proofs.Common.{Option, sym, subst}
use Rattle.cfg_grammar.specs.declared.production.Right.{Right}
use Rattle.derivations.specs.declared.node.Parts.TheVariants as parts
use Rattle.summary_decision.specs.declared.letters.Piece.{Piece}
use Rattle.summary_decision.specs.Joints.{IsLetterOf}
use Rattle.short_sentences.specs.Beginning.{AreMadeOf}
use Rattle.short_sentences.proofs.BeginLemmas.{made_one, made_two}
use Rattle.short_sentences.proofs.step.Step.made_of.Goals as goal

pub returns-in-Some : goal.returns-in-Some
returns-in-Some g c =
    let is = subst (λ (o : Option (Piece g.row.S-Sum.Denot)). IsLetterOf (g.S.Summary.sum_of c.args.self.now.question.now.summary.now) c.in-One.symbol o) c.in-Some.is c.in_ok-piece-in-One.ensures in
    subst (λ (r : Right). AreMadeOf (g.S.Summary.sum_of c.args.self.now.question.now.summary.now) (g.S.Summary.composed c.args.self.now.question.now.summary.now) (g.S.Summary.is_whole c.args.self.now.question.now.summary.now) c.args.self.now.question.now.grammar.now.productions.items c.args.self.now.question.now.grammar.now.start r (parts.One c.in-Some.piece.part, c.in-Some.piece.sum)) (sym c.in-One.is)
    (made_one (g.S.Summary.sum_of c.args.self.now.question.now.summary.now) (g.S.Summary.composed c.args.self.now.question.now.summary.now) (g.S.Summary.is_whole c.args.self.now.question.now.summary.now) c.args.self.now.question.now.grammar.now.productions.items c.args.self.now.question.now.grammar.now.start c.in-One.symbol c.in-Some.piece is)

pub returns-in_ok-sum-in-Two : goal.returns-in_ok-sum-in-Two
returns-in_ok-sum-in-Two g c =
    let x = subst (λ (o : Option (Piece g.row.S-Sum.Denot)). IsLetterOf (g.S.Summary.sum_of c.args.self.now.question.now.summary.now) c.in-Two.first o) c.in-Some-2.is c.in_ok-left-in-Two.ensures in
    let y = subst (λ (o : Option (Piece g.row.S-Sum.Denot)). IsLetterOf (g.S.Summary.sum_of c.args.self.now.question.now.summary.now) c.in-Two.second o) c.in-Some-3.is c.in_ok-right-in-Two.ensures in
    subst (λ (r : Right). AreMadeOf (g.S.Summary.sum_of c.args.self.now.question.now.summary.now) (g.S.Summary.composed c.args.self.now.question.now.summary.now) (g.S.Summary.is_whole c.args.self.now.question.now.summary.now) c.args.self.now.question.now.grammar.now.productions.items c.args.self.now.question.now.grammar.now.start r (parts.Two c.in-Some-2.left.part c.in-Some-3.right.part, c.in_ok-sum-in-Two.sum)) (sym c.in-Two.is)
    (made_two (g.S.Summary.sum_of c.args.self.now.question.now.summary.now) (g.S.Summary.composed c.args.self.now.question.now.summary.now) (g.S.Summary.is_whole c.args.self.now.question.now.summary.now) c.args.self.now.question.now.grammar.now.productions.items c.args.self.now.question.now.grammar.now.start c.in-Two.first c.in-Two.second c.in-Some-2.left c.in-Some-3.right c.in_ok-sum-in-Two.sum c.in_ok-sum-in-Two.ensures x y)
