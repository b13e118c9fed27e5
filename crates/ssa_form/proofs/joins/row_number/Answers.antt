use Rattle.flow_graph.proofs.FoundLemmas.{numbered}
use Rattle.ssa_form.proofs.joins.row_number.Goals as goal

pub returns-clause-number : goal.returns-clause-number
returns-clause-number c = numbered c.args.asks.now.keys (c.args.point, c.args.slot) c.number_of.result c.count-count.ensures.different c.number_of.ensures.some c.number_of.ensures.none
