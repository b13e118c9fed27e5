use Rattle.std.proofs.Common.{refl}
use Rattle.string_ops.proofs.PieceLemmas.{rest_added}
use Rattle.string_ops.proofs.piece.add_rest.Goals as goal

pub returns-clause-moves : goal.returns-clause-moves
returns-clause-moves c =
    rest_added c.args.table.now.moves.items c.add_move.new.self.moves.items _ c.args.state c.in_ok-add_move.ensures.moves refl refl refl refl c.new.ensures.items
