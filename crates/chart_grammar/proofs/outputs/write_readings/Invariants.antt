use Rattle.chart_grammar.specs.Saying.{IsFiled}
use Rattle.chart_grammar.specs.Paid.{ReadingsPay}
use Rattle.chart_grammar.specs.Written.{WritesFirst}
use Rattle.chart_grammar.specs.Writing.{ReadMade, ReadHas}
use Rattle.chart_grammar.proofs.outputs.write_readings.Given as goal

abbrev pub invariant-loop-reading : goal.invariant-loop-reading
invariant-loop-reading l =
    record {
      writes : WritesFirst (ReadMade l.passages.keys l.base) (ReadHas l.passages.keys l.base) l.readings l.reading-index l.fn.outputs.fronts.keys l.outputs.fronts.keys l.fn.outputs.out.items l.outputs.out.items;
      filed : IsFiled l.outputs;
      pay : ReadingsPay l.passages.keys l.base l.readings l.fn.outputs l.outputs;
    }
