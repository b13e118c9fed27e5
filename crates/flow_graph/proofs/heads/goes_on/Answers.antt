use Rattle.std.proofs.Common.{◌≡◌, ℕ, Some, ap, sym, subst, arith, ◌∙◌, refl, true≢false, slice_get}
use Rattle.std.specs.Option.{option_map}
use Rattle.std.proofs.lemmas.Option.{same_Some, slice_get-map}
use Rattle.flow_graph.specs.Steps.{PlainStep, step_seen, steps_seen}
use Rattle.flow_graph.specs.Heads.{ComesFrom}
use Rattle.flow_graph.proofs.HeadLemmas.{looked}
use Rattle.flow_graph.proofs.heads.goes_on.Goals as goal

pub returns-then-leads_only_to-clause-yes : goal.returns-then-leads_only_to-clause-yes
returns-then-leads_only_to-clause-yes c on = record {
  before = c.in-Some.before;
  follows = omega arith;
  step = step_seen c.in-Some-get.step.now;
  there = slice_get-map step_seen c.args.steps.now c.in-Some.before ∙ ap (option_map step_seen)
      (let at = c.in-Some-get.ensures.lookup in looked c.args.steps.now c.args.steps.now c.in-Some.before c.in-Some-get.step.now refl at.0 at.1);
  on = c.leads_only_to.ensures.0 c.if-leads_only_to.true;
  alone = c.comes_from.ensures.yes on;
}

pub returns-then-leads_only_to-clause-no : goal.returns-then-leads_only_to-clause-no
returns-then-leads_only_to-clause-no c less goes =
    let same : goes.before ≡ c.in-Some.before = (let f = goes.follows in omega arith) in
    c.comes_from.ensures.no less (subst (λ (q : ℕ). ComesFrom c.args.arrivals.now.all.items c.args.point q) same goes.alone)

pub returns-else-leads_only_to-clause-no : goal.returns-else-leads_only_to-clause-no
returns-else-leads_only_to-clause-no c less goes =
    let same : goes.before ≡ c.in-Some.before = (let f = goes.follows in omega arith) in
    let step = step_seen c.in-Some-get.step.now in
    let there : slice_get (steps_seen c.args.steps.now) c.in-Some.before ≡ Some step = slice_get-map step_seen c.args.steps.now c.in-Some.before ∙ ap (option_map step_seen)
    (let at = c.in-Some-get.ensures.lookup in looked c.args.steps.now c.args.steps.now c.in-Some.before c.in-Some-get.step.now refl at.0 at.1) in
    let is : step ≡ goes.step = same_Some step goes.step (sym there ∙ subst (λ (q : ℕ). slice_get (steps_seen c.args.steps.now) q ≡ Some goes.step) same goes.there) in
    absurd (true≢false (sym (c.leads_only_to.ensures.1 (ap (λ (s : PlainStep). s.nexts_of) is ∙ goes.on)) ∙ c.if-leads_only_to.false))
