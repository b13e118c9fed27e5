use Rattle.function_laws.proofs.LawLemmas.{any_replaced}
use Rattle.function_laws.proofs.builtin_laws.any_replacement.Goals as goal

pub returns : goal.returns
returns c a b r with t out hb hr e byte has = any_replaced a b r with t out hb hr e byte has
