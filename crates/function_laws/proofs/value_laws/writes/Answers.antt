use Rattle.function_laws.proofs.Arrays.{literal_value, path_steps, write_value}
use Rattle.function_laws.proofs.value_laws.writes.Goals as goal

pub returns-clause-literal : goal.returns-clause-literal
returns-clause-literal c = literal_value

pub returns-clause-write : goal.returns-clause-write
returns-clause-write c = λ ks path new old v h e g i w. write_value path new old v (path_steps ks path h e) g.parts i.parts w
