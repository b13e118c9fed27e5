use Rattle.std.proofs.Common.{◌≡◌, ◌++◌, map, take}
use Rattle.grammar_chart.specs.Rules.{read_on}
use Rattle.grammar_chart.proofs.steps.advance_over.Given as goal

abbrev pub invariant-loop-exit : goal.invariant-loop-exit
invariant-loop-exit l = l.begun.items ≡ l.fn.begun.items ++ map (λ t. read_on l.one t) (take l.exit-index l.exits)
