use Rattle.chart_grammar.specs.Saying.{IsFiled}
use Rattle.chart_grammar.specs.Paid.{EndsPay}
use Rattle.chart_grammar.specs.Written.{WritesFirst}
use Rattle.chart_grammar.specs.Writing.{EndMade, EndHas}
use Rattle.chart_grammar.proofs.outputs.write_ends.Given as goal

abbrev pub invariant-loop-last : goal.invariant-loop-last
invariant-loop-last l =
    record {
      writes : WritesFirst (EndMade l.from l.passages.keys l.base) (EndHas l.from l.passages.keys l.base) l.lasts l.last-index l.fn.outputs.fronts.keys l.outputs.fronts.keys l.fn.outputs.out.items l.outputs.out.items;
      filed : IsFiled l.outputs;
      pay : EndsPay l.from l.passages.keys l.base l.lasts l.fn.outputs l.outputs;
    }
