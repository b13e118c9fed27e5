use Rattle.chart_grammar.proofs.OutputLemmas.{bytes_none, bytes_more}
use Rattle.chart_grammar.proofs.outputs.write_bytes.Goals as goal

pub loop-number-init : goal.loop-number-init
loop-number-init c =
    record {
      writes = bytes_none c.args.passages.now.keys c.args.base c.args.reading.now c.args.outputs.now.fronts.keys c.args.outputs.now.out.items;
      filed = c.requires.filed;
      pays = λ from rs ls before h p. p;
    }

pub loop-number-preserved : goal.loop-number-preserved
loop-number-preserved c =
    record {
      writes = bytes_more c.args.passages.now.keys c.args.base c.args.reading.now c.loop-number.number c.args.outputs.now.fronts.keys c.loop-number.outputs.fronts.keys c.write_byte.new.outputs.fronts.keys c.args.outputs.now.out.items c.loop-number.outputs.out.items c.write_byte.new.outputs.out.items c.loop-number.invariant.writes c.in_ok-write_byte.ensures.some c.in_ok-write_byte.ensures.has;
      filed = c.in_ok-write_byte.ensures.filed;
      pays = λ from rs ls before h p. c.in_ok-write_byte.ensures.pays from rs ls before h (c.loop-number.invariant.pays from rs ls before h p);
    }
