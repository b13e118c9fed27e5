use Rattle.std.proofs.Common.{◌<◌, length, subst, sym, refl, arith}
use Rattle.summary_decision.specs.declared.table.Join.{Join}
use Rattle.derivations.specs.declared.node.Part.TheVariants as part
use Rattle.summary_decision.specs.Joints.{parts_by, composed_by}
use Rattle.summary_decision.proofs.JointLemmas.{meets_one, pair_makes, makes_along, beside_on, joined_by, first_below, second_below}
use Rattle.summary_decision.proofs.meeting.meet_pair.Goals as goal

pub sum_number-first-requires-clause-numbered : goal.sum_number-first-requires-clause-numbered
sum_number-first-requires-clause-numbered g c = c.requires.table.numbered

pub sum_number-first-requires-clause-within : goal.sum_number-first-requires-clause-within
sum_number-first-requires-clause-within g c = omega (arith, c.requires.beside.within, c.requires.table.bounded)

pub sum_number-second-requires-clause-numbered : goal.sum_number-second-requires-clause-numbered
sum_number-second-requires-clause-numbered g c = c.requires.table.numbered

pub sum_number-second-requires-clause-within : goal.sum_number-second-requires-clause-within
sum_number-second-requires-clause-within g c = omega (arith, c.requires.partner.0, c.requires.table.bounded)

pub join-requires-clause-first : goal.join-requires-clause-first
join-requires-clause-first g c =
    subst (λ (x : Join). x.first < length c.args.table.now.sums.keys) (sym c.join_on.ensures)
    (first_below c.args.joint.side c.sum_number-first.result c.sum_number-second.result (length c.args.table.now.sums.keys) c.sum_number-first.ensures.below c.sum_number-second.ensures.below)

pub join-requires-clause-second : goal.join-requires-clause-second
join-requires-clause-second g c =
    subst (λ (x : Join). x.second < length c.args.table.now.sums.keys) (sym c.join_on.ensures)
    (second_below c.args.joint.side c.sum_number-first.result c.sum_number-second.result (length c.args.table.now.sums.keys) c.sum_number-first.ensures.below c.sum_number-second.ensures.below)

pub add_known-requires-clause-table : goal.add_known-requires-clause-table
add_known-requires-clause-table g c = c.in_ok-joined.ensures.goes.table

pub add_known-requires-clause-makes : goal.add_known-requires-clause-makes
add_known-requires-clause-makes g c =
    let q = c.args.question.now in
    let goes = c.in_ok-joined.ensures.goes in
    let partner = c.requires.partner in
    let told = joined_by (g.S.Summary.composed q.summary.now) c.args.joint.side c.args.table.now.sums.keys c.join.new.table.sums.keys c.sum_number-first.result c.sum_number-second.result c.join_on.result c.in_ok-joined.joined c.args.sum.now partner.1.0 c.join_on.ensures c.in_ok-joined.ensures.sum
    (c.sum_number-first.ensures.sum _ c.requires.beside.pair) (c.sum_number-second.ensures.sum _ partner.1.1) in (
      composed_by (g.S.Summary.composed q.summary.now) c.args.joint.side c.args.sum.now partner.1.0,
      told,
      makes_along (g.S.Summary.sum_of q.summary.now) (g.S.Summary.composed q.summary.now) (g.S.Summary.is_whole q.summary.now) q.grammar.now.productions.items q.grammar.now.start q.grammar.now.count c.join.new.table c.args.joint.place (parts_by c.args.joint.side (part.Inner c.args.joint.pair) (part.Inner c.args.pair)) _ _ _ c.parts.ensures refl
          (pair_makes (g.S.Summary.sum_of q.summary.now) (g.S.Summary.composed q.summary.now) (g.S.Summary.is_whole q.summary.now) q.grammar.now.productions.items q.grammar.now.start q.grammar.now.count c.join.new.table c.args.joint c.args.sum.now c.args.partner c.args.pair partner.1.0 goes.table
          (beside_on (g.S.Summary.sum_of q.summary.now) (g.S.Summary.composed q.summary.now) (g.S.Summary.is_whole q.summary.now) q.grammar.now.productions.items q.grammar.now.start q.grammar.now.count c.args.table.now c.join.new.table c.args.joint c.args.sum.now _ goes c.requires.beside)
          (omega (arith, partner.0, goes.bound)) (goes.keeps c.args.pair _ partner.1.1)),
    )

pub returns-clause-ok : goal.returns-clause-ok
returns-clause-ok g c =
    let q = c.args.question.now in
    let partner = c.requires.partner in
    let told = joined_by (g.S.Summary.composed q.summary.now) c.args.joint.side c.args.table.now.sums.keys c.join.new.table.sums.keys c.sum_number-first.result c.sum_number-second.result c.join_on.result c.in_ok-joined.joined c.args.sum.now partner.1.0 c.join_on.ensures c.in_ok-joined.ensures.sum
    (c.sum_number-first.ensures.sum _ c.requires.beside.pair) (c.sum_number-second.ensures.sum _ partner.1.1) in
    meets_one (g.S.Summary.sum_of q.summary.now) (g.S.Summary.composed q.summary.now) (g.S.Summary.is_whole q.summary.now) q.grammar.now.productions.items q.grammar.now.start q.grammar.now.count c.add_known.result c.args.table.now c.join.new.table c.add_known.new.table c.args.joint c.args.sum.now c.args.partner.0 c.args.pair c.in_ok-joined.joined partner told c.in_ok-joined.ensures.goes c.add_known.ensures.ok
