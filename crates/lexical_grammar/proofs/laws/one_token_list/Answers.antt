use Rattle.lexical_grammar.proofs.CutLemmas.{cut_once}
use Rattle.lexical_grammar.proofs.laws.one_token_list.Goals as goal

pub returns : goal.returns
returns c = λ file tokens others first second. cut_once first second
