use Rattle.std.proofs.Common.{sym}
use Rattle.numbered_sets.proofs.WalkLemmas.{walk_begun, walk_stands, walk_further, walk_ended, walk_smaller}
use Rattle.summary_decision.specs.Joints.{taken_count}
use Rattle.summary_decision.proofs.JointLemmas.{beside_on, meets_none, meets_more, meets_all, stands_partner}
use Rattle.summary_decision.proofs.meeting.meet_pairs.Goals as goal

pub loop-before-init : goal.loop-before-init
loop-before-init g c =
    let q = c.args.question.now in
    walk_begun _ _ _ c.requires.taken c.args.partner.0 _ c.last_place-place.ensures
    (λ P. meets_none (g.S.Summary.sum_of q.summary.now) (g.S.Summary.composed q.summary.now) (g.S.Summary.is_whole q.summary.now) q.grammar.now.productions.items q.grammar.now.start q.grammar.now.count c.args.table.now c.args.joint c.args.sum.now c.args.partner.0 P c.requires.table)

pub meet_pair-requires-clause-table : goal.meet_pair-requires-clause-table
meet_pair-requires-clause-table g c = c.loop-before.invariant.done.goes.table

pub meet_pair-requires-clause-beside : goal.meet_pair-requires-clause-beside
meet_pair-requires-clause-beside g c =
    let q = c.args.question.now in
    beside_on (g.S.Summary.sum_of q.summary.now) (g.S.Summary.composed q.summary.now) (g.S.Summary.is_whole q.summary.now) q.grammar.now.productions.items q.grammar.now.start q.grammar.now.count c.args.table.now c.loop-before.table c.args.joint c.args.sum.now _ c.loop-before.invariant.done.goes c.requires.beside

pub meet_pair-requires-clause-partner : goal.meet_pair-requires-clause-partner
meet_pair-requires-clause-partner g c =
    let q = c.args.question.now in
    stands_partner (g.S.Summary.sum_of q.summary.now) (g.S.Summary.composed q.summary.now) (g.S.Summary.is_whole q.summary.now) q.grammar.now.productions.items q.grammar.now.start q.grammar.now.count c.args.table.now c.loop-before.table c.args.partner.0 (taken_count c.args.taken.now) c.loop-before.place c.requires.within
    (walk_stands _ _ _ c.requires.taken c.args.partner.0 c.loop-before.place c.loop-before.invariant c.in-Some.before (sym c.in-Some.ensures)) c.loop-before.invariant.done.goes

pub loop-before-preserved : goal.loop-before-preserved
loop-before-preserved g c =
    let q = c.args.question.now in
    walk_further _ _ _ c.requires.taken c.args.partner.0 c.loop-before.place c.loop-before.invariant c.in-Some.before (sym c.in-Some.ensures)
    (λ P R same met meets. meets_more (g.S.Summary.sum_of q.summary.now) (g.S.Summary.composed q.summary.now) (g.S.Summary.is_whole q.summary.now) q.grammar.now.productions.items q.grammar.now.start q.grammar.now.count P _ R c.args.table.now c.loop-before.table c.meet_pair.new.table c.args.joint c.args.sum.now c.args.partner.0 (λ j asked. (same j).0 asked) meets c.in_ok-meet_pair.ensures.ok)

pub returns-clause-ok : goal.returns-clause-ok
returns-clause-ok g c =
    let q = c.args.question.now in
    walk_ended _ _ _ c.requires.taken c.args.partner.0 c.loop-before.place c.loop-before.invariant (sym c.in_default.ensures)
    (λ P same. meets_all (g.S.Summary.sum_of q.summary.now) (g.S.Summary.composed q.summary.now) (g.S.Summary.is_whole q.summary.now) q.grammar.now.productions.items q.grammar.now.start q.grammar.now.count c.args.table.now c.loop-before.table c.args.joint c.args.sum.now c.args.partner (taken_count c.args.taken.now) P (λ j stands. (same j).1 stands))

pub loop-before-smaller : goal.loop-before-smaller
loop-before-smaller g c = walk_smaller _ _ c.args.taken.now.chains.before.items c.loop-before.place c.in-Some.before c.requires.taken (sym c.in-Some.ensures)
