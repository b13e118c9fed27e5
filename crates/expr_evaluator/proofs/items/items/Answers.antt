use Rattle.expr_evaluator.proofs.TreeLemmas.{empty_of}
use Rattle.expr_evaluator.proofs.RowMoves.{items_end, items_keyed, items_unkeyed}
use Rattle.expr_evaluator.proofs.items.items.Goals as goal

pub returns-in-None : goal.returns-in-None
returns-in-None c = λ r fs. items_end r fs _ _ _ (empty_of _ c.in-None.ensures.cases)

pub returns-in_ok-next-in-Some-Some-default-default : goal.returns-in_ok-next-in-Some-Some-default-default
returns-in_ok-next-in-Some-Some-default-default c = λ r fs. items_keyed r fs _ c.in-Some-Some-default-default.others c.in-Some-Some-default-default.field-0-0.now _ _ _ _ _ _ c.in_ok-next-in-Some-Some-default-default.ensures c.in-Some-Some-default-default.ensures.cases.0 (cc) (cc)

pub returns-in_ok-next-in-Some-None-default-default : goal.returns-in_ok-next-in-Some-None-default-default
returns-in_ok-next-in-Some-None-default-default c = λ r fs. items_unkeyed r fs _ c.in-Some-None-default-default.others c.in-Some-None-default-default.field-0-0.now _ _ _ _ _ c.in_ok-next-in-Some-None-default-default.ensures c.in-Some-None-default-default.ensures.cases.0 (cc) (cc)
