use Rattle.lexical_grammar.proofs.CutLemmas.{never_both}
use Rattle.lexical_grammar.proofs.laws.never_both.Goals as goal

pub returns : goal.returns
returns c = λ file tokens fault place cut broken. never_both cut broken
