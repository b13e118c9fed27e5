use Rattle.std.proofs.Common.{Some, None, refl}
use Rattle.plain_values.specs.Plain.{null, int}
use Rattle.function_laws.proofs.LawLemmas.{literal_cut}
use Rattle.function_laws.proofs.builtin_laws.literal_cut.Goals as goal

pub returns-clause-both : goal.returns-clause-both
returns-clause-both c a start len t out h e = literal_cut a start (int len) (Some len) t out h refl e

pub returns-clause-rest : goal.returns-clause-rest
returns-clause-rest c a start t out h e = literal_cut a start null None t out h refl e

pub returns-clause-without : goal.returns-clause-without
returns-clause-without c a start t out h e = literal_cut a start null None t out h refl e
