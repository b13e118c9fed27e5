use Rattle.std.proofs.Common.{refl}
use Rattle.expr_evaluator.proofs.TreeLemmas.{empty_of}
use Rattle.script_runs.proofs.HeadLemmas.{arms_end, arms_go}
use Rattle.script_runs.proofs.heads.arms_next.Goals as goal

pub returns-in-None : goal.returns-in-None
returns-in-None c = arms_end _ _ _ (empty_of _ c.in-None.ensures.cases) c.deref.ensures.value

pub returns-in-Some : goal.returns-in-Some
returns-in-Some c = arms_go _ c.in-Some.others c.in-Some.arm.now _ _ _ c.in-Some.ensures.cases.0 refl refl
