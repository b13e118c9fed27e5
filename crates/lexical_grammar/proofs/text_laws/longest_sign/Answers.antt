use Rattle.lexical_grammar.proofs.SignLaws.{sign_found, sign_longest, sign_none}
use Rattle.lexical_grammar.proofs.text_laws.longest_sign.Goals as goal

pub returns-clause-found : goal.returns-clause-found
returns-clause-found c = sign_found

pub returns-clause-longest : goal.returns-clause-longest
returns-clause-longest c = sign_longest

pub returns-clause-none : goal.returns-clause-none
returns-clause-none c = sign_none
