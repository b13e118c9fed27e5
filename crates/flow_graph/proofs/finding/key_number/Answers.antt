use Rattle.flow_graph.proofs.FoundLemmas.{numbered}
use Rattle.flow_graph.proofs.finding.key_number.Goals as goal

pub returns : goal.returns
returns c = numbered c.args.keys.now.keys (c.args.function, c.args.param) c.number_of.result c.count-count.ensures.different c.number_of.ensures.some c.number_of.ensures.none
