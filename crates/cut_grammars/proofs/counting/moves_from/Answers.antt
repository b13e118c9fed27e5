use Rattle.std.proofs.Common.{inl, arith}
use Rattle.std.proofs.lemmas.Result.{IfOk-weaker}
use Rattle.cut_grammars.proofs.counting.moves_from.Goals as goal

pub returns : goal.returns
returns c = IfOk-weaker c.one_move.result _ _ (λ moves is. inl (omega (arith, c.if-state-most.false), is)) c.one_move.ensures
