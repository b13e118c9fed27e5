use Rattle.lexical_grammar.proofs.TextLaws.{without_opener}
use Rattle.lexical_grammar.proofs.text_laws.without_opener.Goals as goal

pub returns : goal.returns
returns c = without_opener
