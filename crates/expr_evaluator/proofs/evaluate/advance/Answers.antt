use Rattle.std.proofs.Common.{refl}
use Rattle.expr_evaluator.proofs.LoopMoves.{popped, stops_value, stops_call, stops_fault, moves_as, pauses_as}
use Rattle.expr_evaluator.proofs.evaluate.advance.Goals as goal

pub returns-in_ok-next-in-Eval : goal.returns-in_ok-next-in-Eval
returns-in_ok-next-in-Eval c = moves_as _ _ _ _ _ _ _ c.in-Eval.is (c.in_ok-next-in-Eval.ensures _)

pub returns-in-None : goal.returns-in-None
returns-in-None c = pauses_as _ _ _ _ _ _ _ c.in-Value.is (stops_value _ _ _ _ _ c.in-None.ensures.0 c.in-None.ensures.1 refl)

pub returns-in_ok-next-in-Some : goal.returns-in_ok-next-in-Some
returns-in_ok-next-in-Some c = moves_as _ _ _ _ _ _ _ c.in-Value.is (popped _ _ _ _ _ (record { frames = c.pop.new.self; variables = c.args.m.now.variables }) _ _ c.in-Some.ensures refl (c.in_ok-next-in-Some.ensures _ _))

pub returns-in_ok-next-in-Row : goal.returns-in_ok-next-in-Row
returns-in_ok-next-in-Row c = moves_as _ _ _ _ _ _ _ c.in-Row.is (c.in_ok-next-in-Row.ensures _)

pub returns-in_ok-next-in-Items : goal.returns-in_ok-next-in-Items
returns-in_ok-next-in-Items c = moves_as _ _ _ _ _ _ _ c.in-Items.is (c.in_ok-next-in-Items.ensures _ _)

pub returns-in_ok-next-in-Keys : goal.returns-in_ok-next-in-Keys
returns-in_ok-next-in-Keys c = moves_as _ _ _ _ _ _ _ c.in-Keys.is (c.in_ok-next-in-Keys.ensures _ _)

pub returns-in-Call : goal.returns-in-Call
returns-in-Call c = pauses_as _ _ _ _ _ _ _ c.in-Call.is (stops_call _ _ _ _ _)

pub returns-in-Fault : goal.returns-in-Fault
returns-in-Fault c = pauses_as _ _ _ _ _ _ _ c.in-Fault.is (stops_fault _ _ _ _)
