use Rattle.std.proofs.Common.{length, sym, arith}
use Rattle.numbered_sets.proofs.WalkLemmas.{walk_begun, walk_stands, walk_further, walk_ended, walk_smaller}
use Rattle.summary_decision.proofs.TakeLemmas.{gives_none, gives_more, gives_fewer, stands_at, taken_on}
use Rattle.summary_decision.proofs.taking.take_side.Goals as goal

pub last_place-place-requires : goal.last_place-place-requires
last_place-place-requires g c = omega (arith, c.requires.below, c.requires.uses.spread)

pub loop-before-init : goal.loop-before-init
loop-before-init g c = λ are.
    let q = c.args.question.now in
    walk_begun are.keys _ _ are.chains c.args.nonterminal _ c.last_place-place.ensures
    (λ P. gives_none (g.S.Summary.sum_of q.summary.now) (g.S.Summary.composed q.summary.now) (g.S.Summary.is_whole q.summary.now) q.grammar.now.productions.items q.grammar.now.start q.grammar.now.count c.args.table.now c.args.side c.args.sum.now (length c.args.taken.now.chains.before.items) P c.requires.table)

pub take_at-requires-clause-table : goal.take_at-requires-clause-table
take_at-requires-clause-table g c = (c.loop-before.invariant c.requires.uses).done.goes.table

pub take_at-requires-clause-at : goal.take_at-requires-clause-at
take_at-requires-clause-at g c =
    let q = c.args.question.now in
    let are = c.requires.uses in
    let walked = c.loop-before.invariant are in
    stands_at (g.S.Summary.sum_of q.summary.now) (g.S.Summary.composed q.summary.now) (g.S.Summary.is_whole q.summary.now) q.grammar.now.productions.items q.grammar.now.start q.grammar.now.count c.args.side c.args.sum.now c.args.nonterminal c.args.uses.now are c.args.table.now c.loop-before.table c.args.pair c.loop-before.place c.requires.below c.requires.here c.requires.before
    (walk_stands are.keys _ _ are.chains c.args.nonterminal c.loop-before.place walked c.in-Some.before (sym c.in-Some.ensures)) walked.done.goes

pub take_at-requires-clause-taken : goal.take_at-requires-clause-taken
take_at-requires-clause-taken g c =
    let q = c.args.question.now in
    taken_on (g.S.Summary.sum_of q.summary.now) (g.S.Summary.composed q.summary.now) (g.S.Summary.is_whole q.summary.now) q.grammar.now.productions.items q.grammar.now.start q.grammar.now.count c.args.table.now c.loop-before.table c.args.taken.now (omega (arith, c.requires.within, c.requires.table.bounded)) (c.loop-before.invariant c.requires.uses).done.goes c.requires.taken

pub take_at-requires-clause-within : goal.take_at-requires-clause-within
take_at-requires-clause-within g c = omega (arith, c.requires.within, (c.loop-before.invariant c.requires.uses).done.goes.bound)

pub loop-before-preserved : goal.loop-before-preserved
loop-before-preserved g c = λ are.
    let q = c.args.question.now in
    walk_further are.keys _ _ are.chains c.args.nonterminal c.loop-before.place (c.loop-before.invariant are) c.in-Some.before (sym c.in-Some.ensures)
    (λ P R same met gives. gives_more (g.S.Summary.sum_of q.summary.now) (g.S.Summary.composed q.summary.now) (g.S.Summary.is_whole q.summary.now) q.grammar.now.productions.items q.grammar.now.start q.grammar.now.count P _ R c.args.table.now c.loop-before.table c.take_at.new.table c.args.side c.args.sum.now (length c.args.taken.now.chains.before.items) (λ k asked. (same k).0 asked) gives c.in_ok-take_at.ensures.ok)

pub returns-clause-ok : goal.returns-clause-ok
returns-clause-ok g c =
    let q = c.args.question.now in
    let are = c.requires.uses in
    walk_ended are.keys _ _ are.chains c.args.nonterminal c.loop-before.place (c.loop-before.invariant are) (sym c.in_default.ensures)
    (λ P same. gives_fewer (g.S.Summary.sum_of q.summary.now) (g.S.Summary.composed q.summary.now) (g.S.Summary.is_whole q.summary.now) q.grammar.now.productions.items q.grammar.now.start q.grammar.now.count c.args.table.now c.loop-before.table c.args.side c.args.sum.now (length c.args.taken.now.chains.before.items) P _ (λ k asked. (same k).1 ((are.exact c.args.nonterminal k c.requires.below).1 asked)))

pub loop-before-smaller : goal.loop-before-smaller
loop-before-smaller g c = walk_smaller _ _ c.args.uses.now.before.items c.loop-before.place c.in-Some.before c.requires.uses.chains (sym c.in-Some.ensures)
