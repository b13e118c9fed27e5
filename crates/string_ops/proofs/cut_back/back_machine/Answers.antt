use Rattle.std.proofs.Common.{◌+◌, ap}
use Rattle.string_ops.proofs.CutBackLemmas.{back_is_machine_at}
use Rattle.string_ops.proofs.cut_back.back_machine.Goals as goal

pub returns : goal.returns
returns c =
    let states = 2 + (c.args.below + 1) + (c.args.below + 1) + c.dropped-drops.result in
    back_is_machine_at c.args.below c.args.len states c.in_ok-table.table (ap (λ n. 2 + (c.args.below + 1) + (c.args.below + 1) + n) c.dropped-drops.ensures) c.in_ok-table.ensures
