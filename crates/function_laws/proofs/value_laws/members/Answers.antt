use Rattle.function_laws.proofs.Arrays.{subscript_value, key_value}
use Rattle.function_laws.proofs.value_laws.members.Goals as goal

pub returns-clause-subscript : goal.returns-clause-subscript
returns-clause-subscript c = subscript_value

pub returns-clause-key : goal.returns-clause-key
returns-clause-key c = key_value
