use Rattle.std.proofs.Common.{◌<◌, arith}
use Rattle.std.proofs.lemmas.Option.{IfSome_then}
use Rattle.chart_grammar.proofs.OutLemmas.{shift_range}
use Rattle.chart_grammar.proofs.symbols.shifted.Goals as goal

pub returns-clause-shifts : goal.returns-clause-shifts
returns-clause-shifts c =
    let small : c.args.range.hi < 256 = omega arith in
    let few : c.args.by < 256 = omega arith in
    IfSome_then c.new.result c.new.ensures.ends (λ r p. shift_range c.args.range r c.args.by p.0 p.1 small few)
