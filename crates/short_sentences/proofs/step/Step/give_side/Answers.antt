use Rattle.std.proofs.Common.{◌≡◌, ℕ, Some, slice_get, sym, subst, arith}
use Rattle.numbered_sets.proofs.WalkLemmas.{walk_begun, walk_stands, walk_further, walk_ended, walk_smaller}
use Rattle.short_sentences.specs.Joints.{chained, AreTaken}
use Rattle.short_sentences.proofs.GiveLemmas.{pair_below, gives_none, gives_more, gives_fewer, stands_at}
use Rattle.short_sentences.proofs.NoteLemmas.{entry_told, entry_within}
use Rattle.short_sentences.proofs.step.Step.give_side.Goals as goal

pub index-requires : goal.index-requires
index-requires g c =
    let l = entry_within c.args.table.now.sums.numbered.keys c.args.self.now.taken.now.entries.items c.args.pair _ c.requires.table.taken_numbered c.requires.here.1 in
    omega (arith, l, c.args.self.now.taken.now.entries.ok.0)

pub last_place-place-requires : goal.last_place-place-requires
last_place-place-requires g c =
    let told = entry_told c.args.table.now.sums.numbered.keys c.args.self.now.taken.now.entries.items c.args.pair _ c.index.result.now c.requires.table.taken_numbered c.requires.here.1 c.index.ensures in
    let l = pair_below (g.S.Summary.sum_of c.args.self.now.question.now.summary.now) (g.S.Summary.composed c.args.self.now.question.now.summary.now) (g.S.Summary.is_whole c.args.self.now.question.now.summary.now) c.args.self.now.question.now.grammar.now.productions.items c.args.self.now.question.now.grammar.now.start c.args.self.now.question.now.grammar.now.count c.args.self.now.taken.now c.args.self.now.question.now.grammar.now.below c.args.table.now c.requires.table c.args.pair _ c.requires.here.1 in
    omega (arith, l, told.0, c.uses-uses.ensures.spread)

pub loop-before-init : goal.loop-before-init
loop-before-init g c = λ a here are.
    let told = entry_told c.args.table.now.sums.numbered.keys c.args.self.now.taken.now.entries.items c.args.pair _ c.index.result.now c.requires.table.taken_numbered here c.index.ensures in
    walk_begun are.keys _ _ are.chains a _ (subst (λ (n : ℕ). slice_get c.uses-uses.result.now.last.items n ≡ Some c.last_place-place.result) told.0 c.last_place-place.ensures)
    (λ P. gives_none (g.S.Summary.sum_of c.args.self.now.question.now.summary.now) (g.S.Summary.composed c.args.self.now.question.now.summary.now) (g.S.Summary.is_whole c.args.self.now.question.now.summary.now) c.args.self.now.question.now.grammar.now.productions.items c.args.self.now.question.now.grammar.now.start c.args.self.now.question.now.grammar.now.count c.args.self.now.taken.now c.args.table.now c.args.side c.args.sum.now c.args.pair (chained c.args.self.now.chains.now) P c.requires.table)

pub give_at-requires-clause-table : goal.give_at-requires-clause-table
give_at-requires-clause-table g c = (c.loop-before.invariant _ c.requires.here.1 c.uses-uses.ensures).done.goes.table

pub give_at-requires-clause-at : goal.give_at-requires-clause-at
give_at-requires-clause-at g c =
    let l = pair_below (g.S.Summary.sum_of c.args.self.now.question.now.summary.now) (g.S.Summary.composed c.args.self.now.question.now.summary.now) (g.S.Summary.is_whole c.args.self.now.question.now.summary.now) c.args.self.now.question.now.grammar.now.productions.items c.args.self.now.question.now.grammar.now.start c.args.self.now.question.now.grammar.now.count c.args.self.now.taken.now c.args.self.now.question.now.grammar.now.below c.args.table.now c.requires.table c.args.pair _ c.requires.here.1 in
    let are = c.uses-uses.ensures in
    let walked = c.loop-before.invariant c.requires.here.0 c.requires.here.1 are in
    stands_at (g.S.Summary.sum_of c.args.self.now.question.now.summary.now) (g.S.Summary.composed c.args.self.now.question.now.summary.now) (g.S.Summary.is_whole c.args.self.now.question.now.summary.now) c.args.self.now.question.now.grammar.now.productions.items c.args.self.now.question.now.grammar.now.start c.args.self.now.question.now.grammar.now.count c.args.self.now.taken.now c.args.side c.args.sum.now c.requires.here.0 c.uses-uses.result.now are c.args.table.now c.loop-before.table c.args.pair c.loop-before.place l c.requires.here.1 c.requires.late
    (walk_stands are.keys _ _ are.chains c.requires.here.0 c.loop-before.place walked c.in-Some.before (sym c.in-Some.ensures)) walked.done.goes

pub give_at-requires-clause-taken : goal.give_at-requires-clause-taken
give_at-requires-clause-taken g c =
    subst (λ (z : _). AreTaken z c.args.self.now.chains.now) (sym (c.loop-before.invariant _ c.requires.here.1 c.uses-uses.ensures).done.goes.known_same) c.requires.taken

pub loop-before-preserved : goal.loop-before-preserved
loop-before-preserved g c = λ a here are.
    walk_further are.keys _ _ are.chains a c.loop-before.place (c.loop-before.invariant a here are) c.in-Some.before (sym c.in-Some.ensures)
    (λ P R same met gives. gives_more (g.S.Summary.sum_of c.args.self.now.question.now.summary.now) (g.S.Summary.composed c.args.self.now.question.now.summary.now) (g.S.Summary.is_whole c.args.self.now.question.now.summary.now) c.args.self.now.question.now.grammar.now.productions.items c.args.self.now.question.now.grammar.now.start c.args.self.now.question.now.grammar.now.count c.args.self.now.taken.now P _ R c.args.table.now c.loop-before.table c.give_at.new.table c.args.side c.args.sum.now c.args.pair (chained c.args.self.now.chains.now) (λ k asked. (same k).0 asked) gives c.in_ok-give_at.ensures)

pub returns : goal.returns
returns g c = λ a here.
    let l = pair_below (g.S.Summary.sum_of c.args.self.now.question.now.summary.now) (g.S.Summary.composed c.args.self.now.question.now.summary.now) (g.S.Summary.is_whole c.args.self.now.question.now.summary.now) c.args.self.now.question.now.grammar.now.productions.items c.args.self.now.question.now.grammar.now.start c.args.self.now.question.now.grammar.now.count c.args.self.now.taken.now c.args.self.now.question.now.grammar.now.below c.args.table.now c.requires.table c.args.pair _ here in
    let are = c.uses-uses.ensures in
    walk_ended are.keys _ _ are.chains a c.loop-before.place (c.loop-before.invariant a here are) (sym c.in_default.ensures)
    (λ P same. gives_fewer (g.S.Summary.sum_of c.args.self.now.question.now.summary.now) (g.S.Summary.composed c.args.self.now.question.now.summary.now) (g.S.Summary.is_whole c.args.self.now.question.now.summary.now) c.args.self.now.question.now.grammar.now.productions.items c.args.self.now.question.now.grammar.now.start c.args.self.now.question.now.grammar.now.count c.args.self.now.taken.now c.args.table.now c.loop-before.table c.args.side c.args.sum.now c.args.pair (chained c.args.self.now.chains.now) P _ (λ k asked. (same k).1 ((are.exact a k l).1 asked)))

pub loop-before-smaller : goal.loop-before-smaller
loop-before-smaller g c = walk_smaller _ _ c.uses-uses.result.now.before.items c.loop-before.place c.in-Some.before c.uses-uses.ensures.chains (sym c.in-Some.ensures)
