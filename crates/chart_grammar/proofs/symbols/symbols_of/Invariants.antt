use Rattle.chart_grammar.proofs.OutLemmas.{SymbolsSoFar}
use Rattle.chart_grammar.proofs.symbols.symbols_of.Given as goal

abbrev pub invariant-loop-one : goal.invariant-loop-one
invariant-loop-one l = SymbolsSoFar l.range l.out l.one-index l.symbols.items l.depends
