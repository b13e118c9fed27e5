use Rattle.function_laws.proofs.NumeralLemmas.{signed}
use Rattle.function_laws.proofs.builtin_laws.number_form.Goals as goal

pub returns : goal.returns
returns c z h = signed z h
