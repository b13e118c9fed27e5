use Rattle.flow_lowering.proofs.LoopLemmas.{opens_test}
use Rattle.flow_lowering.proofs.heads.begin_test.Goals as goal

pub returns : goal.returns
returns c = λ before a d. opens_test c.args.value c.in_ok-point.point d c.in_ok-point.ensures
