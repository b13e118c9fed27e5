use Rattle.lexical_grammar.proofs.CutLaws.{rises}
use Rattle.lexical_grammar.proofs.text_laws.places_rise.Goals as goal

pub returns : goal.returns
returns c = λ file tokens cut. rises cut
