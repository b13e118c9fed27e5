use Rattle.remark_steps.proofs.Instructions.{instructions_left}
use Rattle.remark_steps.proofs.laws.instructions_left.Goals as goal

pub returns : goal.returns
returns c = instructions_left
