use Rattle.script_runs.proofs.PayLemmas.{pays_as, takes_as, pays_statement}
use Rattle.script_runs.proofs.paying.go_on.Goals as goal

pub returns-in_ok-next-in-Statement : goal.returns-in_ok-next-in-Statement
returns-in_ok-next-in-Statement c = λ r fs. pays_as r fs c.args.pending.now _ _ _ _ c.in-Statement.is (pays_statement r fs c.args.pending.now _ _ _ (takes_as c.args.pending.now _ _ c.in-Statement.is c.requires) c.in_ok-next-in-Statement.ensures)

pub returns-in_ok-next-in-Turn : goal.returns-in_ok-next-in-Turn
returns-in_ok-next-in-Turn c = λ r fs. pays_as r fs c.args.pending.now _ _ _ _ c.in-Turn.is (c.in_ok-next-in-Turn.ensures r fs)

pub returns-in_ok-next-in-Step : goal.returns-in_ok-next-in-Step
returns-in_ok-next-in-Step c = λ r fs. pays_as r fs c.args.pending.now _ _ _ _ c.in-Step.is (c.in_ok-next-in-Step.ensures r fs)

pub returns-in_ok-next-in-Call : goal.returns-in_ok-next-in-Call
returns-in_ok-next-in-Call c = λ r fs. pays_as r fs c.args.pending.now _ _ _ _ c.in-Call.is (c.in_ok-next-in-Call.ensures r fs)
