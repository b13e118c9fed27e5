use Rattle.function_laws.proofs.LawLemmas.{any_exploded}
use Rattle.function_laws.proofs.builtin_laws.parts.Goals as goal

pub returns : goal.returns
returns c a b t ps h e out has = any_exploded a b t ps h e out has
