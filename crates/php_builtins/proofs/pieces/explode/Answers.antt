use Rattle.std.proofs.Common.{ap, length, arith}
use Rattle.php_builtins.proofs.PieceLemmas.{pieces_count}
use Rattle.php_builtins.proofs.pieces.explode.Goals as goal

pub list_of-requires : goal.list_of-requires
list_of-requires c =
    let items = ap length c.as_slice-3.ensures.value in
    let pieces = ap length c.in_ok-pieces.ensures in
    let bytes = ap length c.as_slice-2.ensures.bytes in
    omega (arith, items, pieces, bytes, c.as_slice-2.ensures.short, pieces_count c.args.sep.now c.as_slice-2.result.now)
