use Rattle.script_runs.proofs.HeadLemmas.{loop_open, loop_test}
use Rattle.script_runs.proofs.heads.loop_next.Goals as goal

pub returns-in-None : goal.returns-in-None
returns-in-None c = loop_open _ c.in-None.is

pub returns-in-Some : goal.returns-in-Some
returns-in-Some c = loop_test _ _ c.in-Some.is
