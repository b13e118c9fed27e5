use Rattle.lexical_grammar.proofs.TextLaws.{leaving_lf, leaving_crlf}
use Rattle.lexical_grammar.proofs.text_laws.leaving_tag.Goals as goal

pub returns-clause-lf : goal.returns-clause-lf
returns-clause-lf c = leaving_lf

pub returns-clause-crlf : goal.returns-clause-crlf
returns-clause-crlf c = leaving_crlf
