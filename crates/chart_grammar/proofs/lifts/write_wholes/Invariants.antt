use Rattle.std.proofs.Common.{[], length, ◌+◌, ◌≤◌}
use Rattle.chart_grammar.specs.declared.fronts.Front.{Front}
use Rattle.chart_grammar.specs.Written.{WritesFirst}
use Rattle.chart_grammar.specs.Writing.{WholeMade, WholeHas}
use Rattle.chart_grammar.specs.Sources.{AllComeOf}
use Rattle.chart_grammar.proofs.lifts.write_wholes.Given as goal

abbrev pub invariant-loop-one : goal.invariant-loop-one
invariant-loop-one l =
    record {
      writes : WritesFirst {X = Front} (WholeMade l.productions l.passages.keys) (WholeHas l.productions l.passages.keys) l.begun l.one-index [] [] l.fn.out.items l.out.items;
      few : length l.out.items ≤ length l.fn.out.items + l.one-index;
      sources : AllComeOf l.productions l.passages.keys l.fn.sources.items l.fn.out.items → AllComeOf l.productions l.passages.keys l.sources.items l.out.items;
    }
