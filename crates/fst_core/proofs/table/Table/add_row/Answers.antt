use Rattle.fst_core.proofs.ChoiceLemmas.{adds_row}
use Rattle.fst_core.proofs.table.Table.add_row.Goals as goal

pub returns-clause-moves : goal.returns-clause-moves
returns-clause-moves c =
    adds_row c.args.self.now.moves.items c.append.new.self.items c.in_ok-row.row.items c.args.from c.args.named.now c.args.actions.now c.in_ok-append.ensures.items c.in_ok-row.ensures.row
