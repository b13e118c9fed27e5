use Rattle.least_sets.proofs.OutputBytes.{output_byte}
use Rattle.least_sets.proofs.laws.bytes_of_outputs.Goals as goal

pub returns : goal.returns
returns c = output_byte
