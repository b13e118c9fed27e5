use Rattle.script_runs.proofs.BeginLemmas.{quit_none, quit_some}
use Rattle.script_runs.proofs.statements.quit_next.Goals as goal

pub returns-in-None : goal.returns-in-None
returns-in-None c = quit_none _ c.in-None.is

pub returns-in-Some : goal.returns-in-Some
returns-in-Some c = quit_some _ _ c.in-Some.is
