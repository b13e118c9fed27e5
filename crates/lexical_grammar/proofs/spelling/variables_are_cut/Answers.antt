use Rattle.lexical_grammar.proofs.SpelledLemmas.{variables_are_cut}
use Rattle.lexical_grammar.proofs.spelling.variables_are_cut.Goals as goal

pub returns : goal.returns
returns c = variables_are_cut
