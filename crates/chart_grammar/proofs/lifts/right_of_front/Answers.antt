use Rattle.chart_grammar.proofs.RightLemmas.{front_by_some}
use Rattle.chart_grammar.proofs.lifts.right_of_front.Goals as goal

pub returns : goal.returns
returns c = front_by_some c.args.front.before c.args.front.last c.if-front-eq0.false
