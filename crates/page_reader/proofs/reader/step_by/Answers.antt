use Rattle.std.proofs.Common.{ap, sym, ◌∙◌}
use Rattle.piece_steps.specs.Readers.{to_state}
use Rattle.page_narrowing.specs.Passing.{narrow_reader}
use Rattle.open_pieces.specs.declared.state.HeldState.{HeldState}
use Rattle.open_pieces.specs.Views.{plain_held}
use Rattle.byte_stepping.specs.declared.state_move.StateMove.{StateMove}
use Rattle.byte_stepping.specs.Views.{plain_move_by}
use Rattle.page_reader.specs.States.{coded}
use Rattle.page_reader.proofs.reader.step_by.Goals as goal

pub returns-in-Done-clause-to : goal.returns-in-Done-clause-to
returns-in-Done-clause-to c =
    λ table. c.beginning.ensures
    ∙ ap (λ (m : StateMove HeldState). coded (to_state (narrow_reader table) (plain_move_by plain_held m))) (sym c.in-Done.is)
