use Rattle.chart_grammar.proofs.PaidLemmas.{item_in}
use Rattle.chart_grammar.specs.Writing.{EndMade, EndHas}
use Rattle.chart_grammar.proofs.WriteLemmas.{writes_none, writes_more_at, writes_all}
use Rattle.chart_grammar.proofs.MonoLemmas.{end_made, end_has}
use Rattle.chart_grammar.proofs.outputs.write_ends.Goals as goal

pub loop-last-init : goal.loop-last-init
loop-last-init c =
    record {
      writes = writes_none (EndMade c.args.from c.args.passages.now.keys c.args.base) (EndHas c.args.from c.args.passages.now.keys c.args.base) c.args.lasts.now c.args.outputs.now.fronts.keys c.args.outputs.now.out.items;
      filed = c.requires.filed;
      pay = λ rs ls before h p. p;
    }

pub loop-last-preserved : goal.loop-last-preserved
loop-last-preserved c =
    let fs = c.args.passages.now.keys in
    let from = c.args.from in
    record {
      writes = writes_more_at (EndMade from fs c.args.base) (EndHas from fs c.args.base) (end_made from fs c.args.base) (end_has from fs c.args.base) c.args.lasts.now c.loop-last.last-index c.last-item.result c.args.outputs.now.fronts.keys c.loop-last.outputs.fronts.keys c.write_end.new.outputs.fronts.keys c.args.outputs.now.out.items c.loop-last.outputs.out.items c.write_end.new.outputs.out.items c.loop-last-test.true c.last-item.is c.loop-last.invariant.writes c.in_ok-write_end.ensures.writes;
      filed = c.in_ok-write_end.ensures.filed;
      pay = λ rs ls before h p. c.in_ok-write_end.ensures.pays rs ls before (h _ (item_in c.args.lasts.now c.loop-last.last-index c.last-item.result c.loop-last-test.true c.last-item.is)) (c.loop-last.invariant.pay rs ls before h p);
    }

pub returns-clause-writes : goal.returns-clause-writes
returns-clause-writes c = writes_all (EndMade c.args.from c.args.passages.now.keys c.args.base) (EndHas c.args.from c.args.passages.now.keys c.args.base) c.args.lasts.now c.loop-last.last-index c.args.outputs.now.fronts.keys c.loop-last.outputs.fronts.keys c.args.outputs.now.out.items c.loop-last.outputs.out.items c.loop-last-test.false c.loop-last.invariant.writes
