use Rattle.std.proofs.Common.{Option, subst}
use Rattle.summary_decision.specs.declared.letters.Piece.{Piece}
use Rattle.summary_decision.specs.Joints.{IsLetterOf, parts_by, composed_by}
use Rattle.derivations.specs.declared.node.Part.TheVariants as part
use Rattle.summary_decision.proofs.JointLemmas.{letter_makes, makes_along, adds_result, meets_letter}
use Rattle.summary_decision.proofs.meeting.meet_letter.Goals as goal

pub add-requires-clause-makes : goal.add-requires-clause-makes
add-requires-clause-makes g c =
    let q = c.args.question.now in
    let is = subst (λ (o : Option (Piece _)). IsLetterOf (g.S.Summary.sum_of q.summary.now) c.args.symbol o) c.in-Some.is c.in_ok-piece.ensures in
    makes_along (g.S.Summary.sum_of q.summary.now) (g.S.Summary.composed q.summary.now) (g.S.Summary.is_whole q.summary.now) q.grammar.now.productions.items q.grammar.now.start q.grammar.now.count c.args.table.now c.args.joint.place (parts_by c.args.joint.side (part.Inner c.args.joint.pair) c.in-Some.piece.part) c.parts.result (composed_by (g.S.Summary.composed q.summary.now) c.args.joint.side c.args.sum.now c.in-Some.piece.sum) c.in_ok-joined.joined c.parts.ensures c.in_ok-joined.ensures
    (letter_makes (g.S.Summary.sum_of q.summary.now) (g.S.Summary.composed q.summary.now) (g.S.Summary.is_whole q.summary.now) q.grammar.now.productions.items q.grammar.now.start q.grammar.now.count c.args.table.now c.args.joint c.args.sum.now c.args.symbol c.in-Some.piece c.requires.table c.requires.beside is)

pub returns-clause-ok : goal.returns-clause-ok
returns-clause-ok g c =
    let q = c.args.question.now in
    let is = subst (λ (o : Option (Piece _)). IsLetterOf (g.S.Summary.sum_of q.summary.now) c.args.symbol o) c.in-Some.is c.in_ok-piece.ensures in
    meets_letter (g.S.Summary.sum_of q.summary.now) (g.S.Summary.composed q.summary.now) (g.S.Summary.is_whole q.summary.now) q.grammar.now.productions.items q.grammar.now.start q.grammar.now.count c.add.result c.args.table.now c.add.new.table c.args.joint c.args.sum.now c.args.symbol c.in-Some.piece is
    (adds_result (g.S.Summary.sum_of q.summary.now) (g.S.Summary.composed q.summary.now) (g.S.Summary.is_whole q.summary.now) q.grammar.now.productions.items q.grammar.now.start q.grammar.now.count c.add.result c.args.table.now c.add.new.table c.args.joint.place (composed_by (g.S.Summary.composed q.summary.now) c.args.joint.side c.args.sum.now c.in-Some.piece.sum) c.in_ok-joined.joined c.in_ok-joined.ensures c.add.ensures.ok)
