use Rattle.script_runs.proofs.GiveLemmas.{stays_goes_on, stays_continues, leaves_breaks, leaves_returns}
use Rattle.script_runs.proofs.flows.behind_turn.Goals as goal

pub returns-in-GoesOn : goal.returns-in-GoesOn
returns-in-GoesOn c = stays_goes_on _ c.in-GoesOn.is

pub returns-in-Continues : goal.returns-in-Continues
returns-in-Continues c = stays_continues _ c.in-Continues.is

pub returns-in-Breaks : goal.returns-in-Breaks
returns-in-Breaks c = leaves_breaks _ c.in-Breaks.is

pub returns-in-Returns : goal.returns-in-Returns
returns-in-Returns c = leaves_returns _ _ c.in-Returns.is
