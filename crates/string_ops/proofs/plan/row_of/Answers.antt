use Rattle.std.proofs.Common.{ℕ, List, Option, subst, arith}
use Rattle.fst_core.specs.declared.out.Out.{Out}
use Rattle.string_ops.specs.Plans.{Names}
use Rattle.string_ops.proofs.PlanRows.{row_more, row_all, choice_below}
use Rattle.string_ops.proofs.plan.row_of.Goals as goal

pub loop-byte-preserved : goal.loop-byte-preserved
loop-byte-preserved g c =
    let states = g.P.Plan.states c.args.plan.now in
    let within = choice_below states (g.P.Plan.rows c.args.plan.now c.args.state c.loop-byte.byte) c.args.turn c.in_ok-choice.choice (g.P.Plan.within c.args.plan.now c.args.state c.loop-byte.byte c.requires (omega arith)) c.in_ok-choice.ensures in
    let names = subst (λ (choice : Option (ℕ × List Out)). Names c.name_choice.new.actions.items c.in_ok-place.place choice) c.in_ok-choice.ensures c.in_ok-place.ensures.named in
    row_more _ _ _ _ _ _ _ c.in_ok-place.place c.loop-byte.invariant c.in_ok-place.ensures.extends (c.in_ok-place.ensures.below states within c.loop-byte.invariant.to) names (c.in_ok-push.ensures.items)

pub returns : goal.returns
returns g c = row_all _ _ _ _ _ c.loop-byte.invariant (omega arith)
