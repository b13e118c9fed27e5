use Rattle.std.proofs.Common.{◌∙◌, ℕ, List, sym, subst, refl, arith, true≢false, Contains}
use Rattle.std.proofs.lemmas.List.{take_all}
use Rattle.flow_graph.proofs.HeadLemmas.{more_from, contains_item}
use Rattle.flow_graph.proofs.heads.come_from.Goals as goal

pub returns-then-not-comes_at : goal.returns-then-not-comes_at
returns-then-not-comes_at c = (
  λ e. absurd (true≢false (sym e)),
  λ from. absurd (true≢false (sym (c.comes_at.ensures.1 (from _ (contains_item c.args.places.now c.loop-place.place-index _ c.loop-place-test.true))) ∙ c.if-not-comes_at.true)),
)

pub loop-place-preserved : goal.loop-place-preserved
loop-place-preserved c =
    more_from c.args.all.now c.args.places.now c.args.before c.loop-place.place-index _ c.loop-place-test.true c.loop-place.invariant (c.comes_at.ensures.0 c.if-not-comes_at.false)

pub returns : goal.returns
returns c = (
  λ e i has. c.loop-place.invariant i (subst (λ (ps : List ℕ). Contains ps i) (sym (take_all c.loop-place.place-index c.args.places.now (omega arith))) has),
  λ from. refl,
)
