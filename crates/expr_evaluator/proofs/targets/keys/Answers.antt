use Rattle.expr_evaluator.proofs.TreeLemmas.{empty_of}
use Rattle.expr_evaluator.proofs.RowMoves.{keys_end, keys_some, keys_none}
use Rattle.expr_evaluator.proofs.targets.keys.Goals as goal

pub returns-in_ok-next-in-None : goal.returns-in_ok-next-in-None
returns-in_ok-next-in-None c = λ r fs. keys_end r fs _ _ _ _ _ _ (empty_of _ c.in-None.ensures.cases) c.in_ok-next-in-None.ensures

pub returns-in_ok-next-in-Some-Some-default : goal.returns-in_ok-next-in-Some-Some-default
returns-in_ok-next-in-Some-Some-default c = λ r fs. keys_some r fs _ _ c.in-Some-Some-default.others c.in-Some-Some-default.field-0-0.now _ _ _ _ _ c.in_ok-next-in-Some-Some-default.ensures c.in-Some-Some-default.ensures.cases.0 (cc)

pub returns-in_ok-push-in-Some-None-default : goal.returns-in_ok-push-in-Some-None-default
returns-in_ok-push-in-Some-None-default c = λ r fs. keys_none r fs _ _ c.in-Some-None-default.others c.in-Some-None-default.field-0-0.now _ _ _ c.in-Some-None-default.ensures.cases.0 (cc) c.in_ok-push-in-Some-None-default.ensures.items
