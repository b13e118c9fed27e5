use Rattle.chart_grammar.proofs.OutLemmas.{puts_same, puts_shift}
use Rattle.chart_grammar.proofs.symbols.symbol_of.Goals as goal

pub returns-in-Same-clause-puts : goal.returns-in-Same-clause-puts
returns-in-Same-clause-puts c = λ letter. puts_same c.args.range c.args.out letter c.in-Same.is

pub returns-in-Some-clause-puts : goal.returns-in-Some-clause-puts
returns-in-Some-clause-puts c = λ letter. puts_shift c.args.range c.in-Some.r c.in-Shift.by c.args.out letter c.in-Shift.is c.in-Some.ensures.shifts
