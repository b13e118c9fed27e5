use Rattle.std.proofs.Common.{refl, arith}
use Rattle.string_ops.proofs.CutBackLemmas.{dropped_of-le}
use Rattle.string_ops.proofs.CutLemmas.{front_of, back_of}
use Rattle.string_ops.proofs.cut.cut_machine.Goals as goal

pub returns : goal.returns
returns c =
    front_of c.front_machine.result c.args.start.now c.args.start.now c.args.len c.magnitude-number.result c.is_below_zero.result refl c.magnitude-number.ensures.value c.is_below_zero.ensures c.if-is_below_zero.false c.front_machine.ensures

pub returns-then-is_below_zero : goal.returns-then-is_below_zero
returns-then-is_below_zero c =
    back_of c.back_machine.result c.args.start.now c.args.start.now c.args.len c.magnitude-number.result c.is_below_zero.result refl c.magnitude-number.ensures.value c.is_below_zero.ensures c.if-is_below_zero.true c.back_machine.ensures

pub back_machine-requires-clause-drops : goal.back_machine-requires-clause-drops
back_machine-requires-clause-drops c = omega (arith, dropped_of-le c.args.len, c.if-size-gt-MOST.false, c.size.ensures)
