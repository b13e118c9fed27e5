use Rattle.lexical_grammar.proofs.CutLaws.{cut_or_broken}
use Rattle.lexical_grammar.proofs.text_laws.cut_or_broken.Goals as goal

pub returns : goal.returns
returns c = cut_or_broken
