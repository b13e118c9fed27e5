use Rattle.std.proofs.Common.{◌≡◌, ◌++◌, map, take}
use Rattle.grammar_chart.specs.Rules.{read_on, begun_at}
use Rattle.grammar_chart.proofs.steps.advance_all.Given as goal

abbrev pub invariant-loop-number : goal.invariant-loop-number
invariant-loop-number l = l.begun.items ≡ l.fn.begun.items ++ map (λ n. read_on (begun_at l.fn.begun.items n) l.exit) (take l.number-index l.waiting)
