use Rattle.chart_grammar.proofs.FrontLemmas.{front_none, front_more}
use Rattle.chart_grammar.proofs.fronts.front_of.Goals as goal

pub loop-symbol-init : goal.loop-symbol-init
loop-symbol-init c = front_none _ _ _

pub loop-symbol-preserved : goal.loop-symbol-preserved
loop-symbol-preserved c =
    front_more c.args.base c.args.fronts.now.keys c.loop-symbol.fronts.keys c.number.new.keys.keys c.args.symbols.now c.in_ok-number.field-0-1 c.loop-symbol.symbol-index c.loop-symbol.before c.in_ok-number.number c.symbol-item.result c.symbol-item.result c.in_ok-number.ensures.keys c.loop-symbol-test.true c.symbol-item.is c.loop-symbol.invariant c.in_ok-number.ensures.number c.in_ok-number.ensures.keeps
