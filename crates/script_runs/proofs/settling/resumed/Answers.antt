use Rattle.script_runs.proofs.SettleLemmas.{idle_at, resumed_value, resumed_call, resumed_fault}
use Rattle.script_runs.proofs.settling.resumed.Goals as goal

pub returns-in_ok-next-in-Value : goal.returns-in_ok-next-in-Value
returns-in_ok-next-in-Value c = λ r fs. resumed_value r fs c.args.pending.now _ _ _ _ _ c.in-Value.is (idle_at c.args.pending.now _ _ c.in-Value.is c.requires) c.in_ok-next-in-Value.ensures

pub returns-in-Call : goal.returns-in-Call
returns-in-Call c = λ r fs. resumed_call r fs c.args.pending.now _ _ _ _ c.in-Call.is

pub returns-in-Fault : goal.returns-in-Fault
returns-in-Fault c = λ r fs. resumed_fault r fs c.args.pending.now _ _ _ c.in-Fault.is
