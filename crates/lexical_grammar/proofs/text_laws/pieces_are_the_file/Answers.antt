use Rattle.lexical_grammar.proofs.CutLaws.{pieces_of}
use Rattle.lexical_grammar.proofs.text_laws.pieces_are_the_file.Goals as goal

pub returns : goal.returns
returns c = λ file tokens cut. pieces_of cut
