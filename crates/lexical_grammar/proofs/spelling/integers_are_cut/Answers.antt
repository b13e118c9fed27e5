use Rattle.lexical_grammar.proofs.SpelledLemmas.{integers_are_cut}
use Rattle.lexical_grammar.proofs.spelling.integers_are_cut.Goals as goal

pub returns : goal.returns
returns c = integers_are_cut
