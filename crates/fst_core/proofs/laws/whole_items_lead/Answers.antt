use Rattle.fst_core.proofs.Reading.{leads_whole}
use Rattle.fst_core.proofs.laws.whole_items_lead.Goals as goal

pub returns : goal.returns
returns g c = leads_whole c.args.grammar.now.productions.items (g.M.Machine.steps c.args.machine.now) c.args.from (g.M.Machine.first c.args.machine.now)
