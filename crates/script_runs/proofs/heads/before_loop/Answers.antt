use Rattle.expr_evaluator.proofs.TreeLemmas.{empty_of}
use Rattle.script_runs.proofs.HeadLemmas.{before_ends, before_goes}
use Rattle.script_runs.proofs.heads.before_loop.Goals as goal

pub returns-in-None : goal.returns-in-None
returns-in-None c = before_ends _ _ _ (empty_of _ c.in-None.ensures.cases) c.loop_next.ensures

pub returns-in-Some : goal.returns-in-Some
returns-in-Some c = before_goes _ c.in-Some.others c.in-Some.first _ c.in-Some.ensures.cases.0
