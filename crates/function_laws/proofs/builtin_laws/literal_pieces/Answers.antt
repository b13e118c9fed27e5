use Rattle.function_laws.proofs.LawLemmas.{literal_exploded}
use Rattle.function_laws.proofs.builtin_laws.literal_pieces.Goals as goal

pub returns : goal.returns
returns c sep a t ps h e out has = literal_exploded sep a t ps h e out has
