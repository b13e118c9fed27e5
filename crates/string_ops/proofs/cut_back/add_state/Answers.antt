use Rattle.std.proofs.Common.{◌∙◌}
use Rattle.string_ops.specs.CutBack.{back_row, back_last}
use Rattle.string_ops.proofs.PlanStates.{turns, moved_ends, moved_moves}
use Rattle.string_ops.proofs.CutBackLemmas.{row_few}
use Rattle.string_ops.proofs.cut_back.add_state.Goals as goal

pub returns : goal.returns
returns c =
    let row = back_row c.args.cut.last c.args.cut.len c.args.state in
    record {
      all = c.in_ok-add_last.ensures.states ∙ c.in_ok-add_turn-3.ensures.states ∙ c.in_ok-add_turn-2.ensures.states ∙ c.in_ok-add_turn.ensures.states;
      first = c.in_ok-add_last.ensures.start ∙ c.in_ok-add_turn-3.ensures.start ∙ c.in_ok-add_turn-2.ensures.start ∙ c.in_ok-add_turn.ensures.start;
      moves = moved_moves _ _ _ c.args.state row c.in_ok-add_last.ensures.moves (turns _ _ _ _ c.args.state row c.in_ok-add_turn.ensures.moves c.in_ok-add_turn-2.ensures.moves c.in_ok-add_turn-3.ensures.moves (row_few c.args.cut.last c.args.cut.len c.args.state));
      ends = moved_ends _ _ _ c.args.state (back_last c.args.cut.last c.args.cut.len c.args.state) (c.in_ok-add_turn-3.ensures.ends ∙ c.in_ok-add_turn-2.ensures.ends ∙ c.in_ok-add_turn.ensures.ends) c.in_ok-add_last.ensures.ends;
    }
