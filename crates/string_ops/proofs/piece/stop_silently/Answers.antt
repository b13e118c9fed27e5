use Rattle.std.proofs.Common.{refl}
use Rattle.string_ops.proofs.PieceLemmas.{stop_added}
use Rattle.string_ops.proofs.piece.stop_silently.Goals as goal

pub returns-clause-ends : goal.returns-clause-ends
returns-clause-ends c =
    stop_added c.args.table.now.ends.items c.add_end.new.self.ends.items _ c.args.state c.in_ok-add_end.ensures.ends refl c.new.ensures.items
