use Rattle.std.proofs.Common.{length, ◌+◌, ◌≤◌}
use Rattle.chart_grammar.proofs.OutputLemmas.{FrontsWritten}
use Rattle.chart_grammar.proofs.outputs.write_fronts.Given as goal

abbrev pub invariant-loop-number : goal.invariant-loop-number
invariant-loop-number l =
    record {
      writes : FrontsWritten l.fronts l.base l.count l.number l.fn.out.items l.out.items;
      few : length l.out.items ≤ length l.fn.out.items + l.number;
    }
