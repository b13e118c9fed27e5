use Rattle.lexical_grammar.proofs.TextLaws.{line_comment_ends}
use Rattle.lexical_grammar.proofs.text_laws.line_comment_ends_first.Goals as goal

pub returns : goal.returns
returns c = line_comment_ends
