use Rattle.resolving.proofs.StepLemmas.{operand_exact}
use Rattle.resolving.proofs.laws.operand_is_exact.Goals as goal

pub returns : goal.returns
returns c ps count rule numbers k draft has in_none are at ready = operand_exact c.args.s.now ps count rule numbers k draft has in_none are at ready
