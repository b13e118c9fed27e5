use Rattle.std.proofs.Common.{ℕ, get_or, sym, subst, arith}
use Rattle.string_functions.proofs.BorderLemmas.{IsNext, next_is}
use Rattle.string_functions.proofs.PlaceLemmas.{reads_more, found, not_found}
use Rattle.string_functions.proofs.occurrence.find.Goals as goal

pub overflow_sub-result : goal.overflow_sub-result
overflow_sub-result c =
    let is = subst (λ (k : ℕ). IsNext c.args.pattern.now c.loop-at.part (get_or c.args.text.now c.loop-at.at 0) k) (sym c.next_part-part.ensures) (next_is c.args.pattern.now c.loop-at.part (get_or c.args.text.now c.loop-at.at 0) c.loop-at.invariant.less) in
    let u = is.within in
    let w = c.loop-at.invariant.within in
    omega (arith, u, w)

pub returns-then-part-pattern-clause-place : goal.returns-then-part-pattern-clause-place
returns-then-part-pattern-clause-place c =
    let is = subst (λ (k : ℕ). IsNext c.args.pattern.now c.loop-at.part (get_or c.args.text.now c.loop-at.at 0) k) (sym c.next_part-part.ensures) (next_is c.args.pattern.now c.loop-at.part (get_or c.args.text.now c.loop-at.at 0) c.loop-at.invariant.less) in
    found c.args.pattern.now c.args.text.now c.loop-at.at c.loop-at.part c.next_part-part.result c.loop-at-test.true c.loop-at.invariant is c.if-part-pattern.true

pub loop-at-preserved : goal.loop-at-preserved
loop-at-preserved c =
    let is = subst (λ (k : ℕ). IsNext c.args.pattern.now c.loop-at.part (get_or c.args.text.now c.loop-at.at 0) k) (sym c.next_part-part.ensures) (next_is c.args.pattern.now c.loop-at.part (get_or c.args.text.now c.loop-at.at 0) c.loop-at.invariant.less) in
    reads_more c.args.pattern.now c.args.text.now c.loop-at.at c.loop-at.part c.next_part-part.result c.loop-at-test.true c.loop-at.invariant is c.if-part-pattern.false

pub returns-clause-place : goal.returns-clause-place
returns-clause-place c = not_found c.args.pattern.now c.args.text.now c.loop-at.at c.loop-at.part c.loop-at-test.false c.loop-at.auto.at-end c.loop-at.invariant

pub returns-then-part-pattern-clause-within : goal.returns-then-part-pattern-clause-within
returns-then-part-pattern-clause-within c =
    let is = subst (λ (k : ℕ). IsNext c.args.pattern.now c.loop-at.part (get_or c.args.text.now c.loop-at.at 0) k) (sym c.next_part-part.ensures) (next_is c.args.pattern.now c.loop-at.part (get_or c.args.text.now c.loop-at.at 0) c.loop-at.invariant.less) in
    let u = is.within in
    let w = c.loop-at.invariant.within in
    omega (arith, u, w, c.loop-at-test.true, c.if-part-pattern.true)
