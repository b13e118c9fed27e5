use Rattle.flow_lowering.proofs.BlockLemmas.{lays_run}
use Rattle.program_lowering.proofs.alone.lower_run.Goals as goal

pub returns : goal.returns
returns c = lays_run c.in_ok-lower_expr.ensures
