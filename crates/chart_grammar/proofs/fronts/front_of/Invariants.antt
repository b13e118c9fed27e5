use Rattle.chart_grammar.proofs.FrontLemmas.{FrontSoFar}
use Rattle.chart_grammar.proofs.fronts.front_of.Given as goal

abbrev pub invariant-loop-symbol : goal.invariant-loop-symbol
invariant-loop-symbol l = FrontSoFar l.base l.fn.fronts.keys l.fronts.keys l.symbols l.symbol-index l.before
