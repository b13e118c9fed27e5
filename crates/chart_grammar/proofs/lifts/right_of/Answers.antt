use Rattle.chart_grammar.proofs.RightLemmas.{front_right_some}
use Rattle.chart_grammar.proofs.lifts.right_of.Goals as goal

pub returns : goal.returns
returns c = front_right_some c.args.front c.if-front-eq0.false
