use Rattle.lexical_grammar.proofs.SpelledLemmas.{names_are_cut}
use Rattle.lexical_grammar.proofs.spelling.names_are_cut.Goals as goal

pub returns : goal.returns
returns c = names_are_cut
