use Rattle.script_runs.proofs.BeginLemmas.{return_none, return_some}
use Rattle.script_runs.proofs.statements.return_next.Goals as goal

pub returns-in-None : goal.returns-in-None
returns-in-None c = return_none _ c.in-None.is

pub returns-in-Some : goal.returns-in-Some
returns-in-Some c = return_some _ _ c.in-Some.is
