use Rattle.function_laws.proofs.Functions.{function_value}
use Rattle.function_laws.proofs.value_laws.functions.Goals as goal

pub returns : goal.returns
returns c = function_value
