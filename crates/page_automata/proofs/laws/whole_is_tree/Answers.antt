use Rattle.page_automata.proofs.WholeLemmas.{whole_is_tree}
use Rattle.page_automata.proofs.laws.whole_is_tree.Goals as goal

pub returns : goal.returns
returns c = λ table t decides own tokens. whole_is_tree table t decides own tokens
