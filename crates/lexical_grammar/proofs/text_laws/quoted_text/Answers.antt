use Rattle.lexical_grammar.proofs.TextLaws.{quoted_text}
use Rattle.lexical_grammar.proofs.text_laws.quoted_text.Goals as goal

pub returns : goal.returns
returns c = quoted_text
