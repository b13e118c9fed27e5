use Rattle.lexical_grammar.proofs.TextLaws.{plain_text}
use Rattle.lexical_grammar.proofs.text_laws.plain_double_quoted_text.Goals as goal

pub returns : goal.returns
returns c = plain_text
