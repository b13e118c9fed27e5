use Rattle.plain_values.specs.Plain.{null}
use Rattle.function_laws.proofs.LawLemmas.{any_cut}
use Rattle.function_laws.proofs.builtin_laws.part.Goals as goal

pub returns-clause-three : goal.returns-clause-three
returns-clause-three c a b n t out h e = any_cut a b n t out h e

pub returns-clause-two : goal.returns-clause-two
returns-clause-two c a b t out h e = any_cut a b null t out h e
