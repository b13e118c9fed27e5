use Rattle.chart_grammar.proofs.RightLemmas.{end_by_some}
use Rattle.chart_grammar.proofs.lifts.right_of_end.Goals as goal

pub returns : goal.returns
returns c = end_by_some c.args.passage.0 c.args.front c.if-front-eq0.false
