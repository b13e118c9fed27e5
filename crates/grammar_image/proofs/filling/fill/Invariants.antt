use Rattle.std.proofs.Common.{◌≡◌}
use Rattle.grammar_image.specs.Work.{IsWorked}
use Rattle.grammar_image.proofs.filling.fill.Given as goal

abbrev pub invariant-loop-turn : goal.invariant-loop-turn
invariant-loop-turn g l =
    record {
      worked : IsWorked (g.M.Machine.steps l.machine) (g.M.Machine.gives l.machine) (g.M.Machine.first l.machine) l.productions l.states.keys l.chart;
      from : l.chart.from ≡ l.fn.chart.from;
    }
