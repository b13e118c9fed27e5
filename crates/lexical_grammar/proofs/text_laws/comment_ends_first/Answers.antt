use Rattle.lexical_grammar.proofs.TextLaws.{comment_ends}
use Rattle.lexical_grammar.proofs.text_laws.comment_ends_first.Goals as goal

pub returns : goal.returns
returns c = comment_ends
