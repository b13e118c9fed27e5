use Rattle.chart_grammar.proofs.PaidLemmas.{item_in}
use Rattle.chart_grammar.specs.Writing.{ReadMade, ReadHas}
use Rattle.chart_grammar.proofs.WriteLemmas.{writes_none, writes_more_at, writes_all}
use Rattle.chart_grammar.proofs.MonoLemmas.{read_made, read_has}
use Rattle.chart_grammar.proofs.outputs.write_readings.Goals as goal

pub loop-reading-init : goal.loop-reading-init
loop-reading-init c =
    record {
      writes = writes_none (ReadMade c.args.passages.now.keys c.args.base) (ReadHas c.args.passages.now.keys c.args.base) c.args.readings.now c.args.outputs.now.fronts.keys c.args.outputs.now.out.items;
      filed = c.requires.filed;
      pay = λ from rs ls before h p. p;
    }

pub loop-reading-preserved : goal.loop-reading-preserved
loop-reading-preserved c =
    let fs = c.args.passages.now.keys in
    record {
      writes = writes_more_at (ReadMade fs c.args.base) (ReadHas fs c.args.base) (read_made fs c.args.base) (read_has fs c.args.base) c.args.readings.now c.loop-reading.reading-index c.reading-item.result c.args.outputs.now.fronts.keys c.loop-reading.outputs.fronts.keys c.write_reading.new.outputs.fronts.keys c.args.outputs.now.out.items c.loop-reading.outputs.out.items c.write_reading.new.outputs.out.items c.loop-reading-test.true c.reading-item.is c.loop-reading.invariant.writes c.in_ok-write_reading.ensures.writes;
      filed = c.in_ok-write_reading.ensures.filed;
      pay = λ from rs ls before h p. c.in_ok-write_reading.ensures.pays from rs ls before (h _ (item_in c.args.readings.now c.loop-reading.reading-index c.reading-item.result c.loop-reading-test.true c.reading-item.is)) (c.loop-reading.invariant.pay from rs ls before h p);
    }

pub returns-clause-writes : goal.returns-clause-writes
returns-clause-writes c = writes_all (ReadMade c.args.passages.now.keys c.args.base) (ReadHas c.args.passages.now.keys c.args.base) c.args.readings.now c.loop-reading.reading-index c.args.outputs.now.fronts.keys c.loop-reading.outputs.fronts.keys c.args.outputs.now.out.items c.loop-reading.outputs.out.items c.loop-reading-test.false c.loop-reading.invariant.writes
