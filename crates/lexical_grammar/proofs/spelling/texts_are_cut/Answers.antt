use Rattle.lexical_grammar.proofs.SpelledLemmas.{text_spelled}
use Rattle.lexical_grammar.proofs.spelling.texts_are_cut.Goals as goal

pub returns : goal.returns
returns c = text_spelled
