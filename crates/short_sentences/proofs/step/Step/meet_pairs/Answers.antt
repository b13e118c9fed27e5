use Rattle.std.proofs.Common.{sym}
use Rattle.numbered_sets.proofs.WalkLemmas.{walk_begun, walk_stands, walk_further, walk_ended, walk_smaller}
use Rattle.short_sentences.specs.Joints.{chained}
use Rattle.short_sentences.proofs.JointLemmas.{beside_on, meets_none, meets_more, meets_all, stands_partner}
use Rattle.short_sentences.proofs.step.Step.meet_pairs.Goals as goal

pub loop-before-init : goal.loop-before-init
loop-before-init g c =
    walk_begun _ _ _ c.requires.taken c.args.partner.0 _ c.last_place-place.ensures
    (λ P. meets_none (g.S.Summary.sum_of c.args.self.now.question.now.summary.now) (g.S.Summary.composed c.args.self.now.question.now.summary.now) (g.S.Summary.is_whole c.args.self.now.question.now.summary.now) c.args.self.now.question.now.grammar.now.productions.items c.args.self.now.question.now.grammar.now.start c.args.self.now.question.now.grammar.now.count c.args.self.now.taken.now c.args.table.now c.args.joint c.args.sum.now c.args.partner.0 P c.requires.table)

pub meet_pair-requires-clause-table : goal.meet_pair-requires-clause-table
meet_pair-requires-clause-table g c = c.loop-before.invariant.done.goes.table

pub meet_pair-requires-clause-beside : goal.meet_pair-requires-clause-beside
meet_pair-requires-clause-beside g c =
    beside_on (g.S.Summary.sum_of c.args.self.now.question.now.summary.now) (g.S.Summary.composed c.args.self.now.question.now.summary.now) (g.S.Summary.is_whole c.args.self.now.question.now.summary.now) c.args.self.now.question.now.grammar.now.productions.items c.args.self.now.question.now.grammar.now.start c.args.self.now.question.now.grammar.now.count c.args.self.now.taken.now c.args.table.now c.loop-before.table c.args.joint c.args.sum.now _ c.loop-before.invariant.done.goes c.requires.beside

pub meet_pair-requires-clause-partner : goal.meet_pair-requires-clause-partner
meet_pair-requires-clause-partner g c =
    stands_partner (g.S.Summary.sum_of c.args.self.now.question.now.summary.now) (g.S.Summary.composed c.args.self.now.question.now.summary.now) (g.S.Summary.is_whole c.args.self.now.question.now.summary.now) c.args.self.now.question.now.grammar.now.productions.items c.args.self.now.question.now.grammar.now.start c.args.self.now.question.now.grammar.now.count c.args.self.now.taken.now c.args.table.now c.loop-before.table c.args.partner.0 (chained c.args.self.now.chains.now) c.loop-before.place
    (walk_stands _ _ _ c.requires.taken c.args.partner.0 c.loop-before.place c.loop-before.invariant c.in-Some.before (sym c.in-Some.ensures)) c.loop-before.invariant.done.goes

pub loop-before-preserved : goal.loop-before-preserved
loop-before-preserved g c =
    walk_further _ _ _ c.requires.taken c.args.partner.0 c.loop-before.place c.loop-before.invariant c.in-Some.before (sym c.in-Some.ensures)
    (λ P R same met meets. meets_more (g.S.Summary.sum_of c.args.self.now.question.now.summary.now) (g.S.Summary.composed c.args.self.now.question.now.summary.now) (g.S.Summary.is_whole c.args.self.now.question.now.summary.now) c.args.self.now.question.now.grammar.now.productions.items c.args.self.now.question.now.grammar.now.start c.args.self.now.question.now.grammar.now.count c.args.self.now.taken.now P _ R c.args.table.now c.loop-before.table c.meet_pair.new.table c.args.joint c.args.sum.now c.args.partner.0 (λ j asked. (same j).0 asked) meets c.in_ok-meet_pair.ensures)

pub returns : goal.returns
returns g c =
    walk_ended _ _ _ c.requires.taken c.args.partner.0 c.loop-before.place c.loop-before.invariant (sym c.in_default.ensures)
    (λ P same. meets_all (g.S.Summary.sum_of c.args.self.now.question.now.summary.now) (g.S.Summary.composed c.args.self.now.question.now.summary.now) (g.S.Summary.is_whole c.args.self.now.question.now.summary.now) c.args.self.now.question.now.grammar.now.productions.items c.args.self.now.question.now.grammar.now.start c.args.self.now.question.now.grammar.now.count c.args.self.now.taken.now c.args.table.now c.loop-before.table c.args.joint c.args.sum.now c.args.partner (chained c.args.self.now.chains.now) P (λ j stands. (same j).1 stands))

pub loop-before-smaller : goal.loop-before-smaller
loop-before-smaller g c = walk_smaller _ _ c.args.self.now.chains.now.before.items c.loop-before.place c.in-Some.before c.requires.taken (sym c.in-Some.ensures)
