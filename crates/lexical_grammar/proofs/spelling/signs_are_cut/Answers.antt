use Rattle.lexical_grammar.proofs.SpelledLemmas.{sign_spelled, bracket_spelled}
use Rattle.lexical_grammar.proofs.spelling.signs_are_cut.Goals as goal

pub returns-clause-spaced : goal.returns-clause-spaced
returns-clause-spaced c = sign_spelled

pub returns-clause-bracket : goal.returns-clause-bracket
returns-clause-bracket c = bracket_spelled
