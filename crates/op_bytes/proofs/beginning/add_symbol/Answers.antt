use Rattle.text_base.specs.ByteRange.{InRange}
use Rattle.op_bytes.proofs.GainLemmas.{range_gains, gains_at}
use Rattle.op_bytes.proofs.beginning.add_symbol.Goals as goal

pub returns-in-Range : goal.returns-in-Range
returns-in-Range c =
    range_gains c.args.sets.now.items _ c.args.left c.args.symbol c.in-Range.range c.in-Range.is
    (gains_at c.args.sets.now.items c.args.left c.index_mut.result.now c.add.new.self (InRange c.in-Range.range) c.requires c.index_mut.ensures.value c.add.ensures)
