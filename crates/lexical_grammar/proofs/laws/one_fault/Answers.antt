use Rattle.lexical_grammar.proofs.CutLemmas.{break_once}
use Rattle.lexical_grammar.proofs.laws.one_fault.Goals as goal

pub returns : goal.returns
returns c = λ file fault other place second first again. break_once first again
