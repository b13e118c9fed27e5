use Rattle.script_runs.proofs.GiveLemmas.{rest_goes, rest_left}
use Rattle.script_runs.proofs.flows.rest_next.Goals as goal

pub returns-in-GoesOn : goal.returns-in-GoesOn
returns-in-GoesOn c = rest_goes _ _ c.in-GoesOn.is

pub returns-in_default : goal.returns-in_default
returns-in_default c = rest_left _ _ c.in_default.not-GoesOn
