use Rattle.chart_grammar.specs.Saying.{IsFiled}
use Rattle.chart_grammar.specs.Paid.{ReadingPays}
use Rattle.chart_grammar.proofs.OutputLemmas.{BytesWritten}
use Rattle.chart_grammar.proofs.outputs.write_bytes.Given as goal

abbrev pub invariant-loop-number : goal.invariant-loop-number
invariant-loop-number l =
    record {
      writes : BytesWritten l.passages.keys l.base l.reading l.number l.fn.outputs.fronts.keys l.outputs.fronts.keys l.fn.outputs.out.items l.outputs.out.items;
      filed : IsFiled l.outputs;
      pays : ReadingPays l.passages.keys l.base l.reading l.fn.outputs l.outputs;
    }
