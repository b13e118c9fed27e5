use Rattle.std.proofs.Common.{[]}
use Rattle.function_laws.proofs.LawLemmas.{literal_replaced}
use Rattle.function_laws.proofs.builtin_laws.literal_replacement.Goals as goal

pub returns-clause-replace : goal.returns-clause-replace
returns-clause-replace c search with a t out h e = literal_replaced search with a t out h e

pub returns-clause-same : goal.returns-clause-same
returns-clause-same c with a t out h e = literal_replaced [] with a t out h e
