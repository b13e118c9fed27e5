use Rattle.op_system.proofs.OutputBytes.{OutputByte-Rel}
use Rattle.op_system.proofs.laws.bytes_of_outputs.Goals as goal

pub returns : goal.returns
returns c = OutputByte-Rel c.args.op.now c.args.input.now c.args.output.now c.requires
