use Rattle.std.proofs.Common.{refl}
use Rattle.string_ops.proofs.PieceLemmas.{step_added}
use Rattle.string_ops.proofs.factor.add_step.Goals as goal

pub returns-clause-moves : goal.returns-clause-moves
returns-clause-moves c =
    step_added c.args.table.now.moves.items c.add_move.new.self.moves.items _ c.args.from c.args.to _ c.in_ok-add_move.ensures.moves refl refl refl refl c.in_ok-out.ensures
