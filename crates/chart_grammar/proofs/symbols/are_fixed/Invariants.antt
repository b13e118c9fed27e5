use Rattle.std.proofs.Common.{take}
use Rattle.chart_grammar.specs.Outs.{AreFixed}
use Rattle.chart_grammar.proofs.symbols.are_fixed.Given as goal

abbrev pub invariant-loop-one : goal.invariant-loop-one
invariant-loop-one l = AreFixed (take l.one-index l.out)
