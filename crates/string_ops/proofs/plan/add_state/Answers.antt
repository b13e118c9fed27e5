use Rattle.std.proofs.Common.{◌∙◌}
use Rattle.string_ops.proofs.PlanStates.{turns, moved_ends, moved_moves}
use Rattle.string_ops.proofs.plan.add_state.Goals as goal

pub returns : goal.returns
returns g c =
    let row = g.P.Plan.rows c.args.plan.now c.args.state in
    record {
      all = c.in_ok-add_last.ensures.states ∙ c.in_ok-add_turn-3.ensures.states ∙ c.in_ok-add_turn-2.ensures.states ∙ c.in_ok-add_turn.ensures.states;
      first = c.in_ok-add_last.ensures.start ∙ c.in_ok-add_turn-3.ensures.start ∙ c.in_ok-add_turn-2.ensures.start ∙ c.in_ok-add_turn.ensures.start;
      moves = moved_moves _ _ _ c.args.state row c.in_ok-add_last.ensures.moves (turns _ _ _ _ c.args.state row c.in_ok-add_turn.ensures.moves c.in_ok-add_turn-2.ensures.moves c.in_ok-add_turn-3.ensures.moves (g.P.Plan.three c.args.plan.now c.args.state));
      ends = moved_ends _ _ _ c.args.state (g.P.Plan.lasts c.args.plan.now c.args.state) (c.in_ok-add_turn-3.ensures.ends ∙ c.in_ok-add_turn-2.ensures.ends ∙ c.in_ok-add_turn.ensures.ends) c.in_ok-add_last.ensures.ends;
    }
