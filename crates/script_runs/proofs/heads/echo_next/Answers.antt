use Rattle.expr_evaluator.proofs.TreeLemmas.{empty_of}
use Rattle.script_runs.proofs.HeadLemmas.{echo_ends, echo_goes}
use Rattle.script_runs.proofs.heads.echo_next.Goals as goal

pub returns-in-None : goal.returns-in-None
returns-in-None c = echo_ends _ (empty_of _ c.in-None.ensures.cases)

pub returns-in-Some : goal.returns-in-Some
returns-in-Some c = echo_goes _ c.in-Some.others c.in-Some.first c.in-Some.ensures.cases.0
