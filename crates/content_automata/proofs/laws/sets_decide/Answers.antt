use Rattle.content_automata.proofs.Deciding.{sets_decide}
use Rattle.content_automata.proofs.laws.sets_decide.Goals as goal

pub returns : goal.returns
returns c = sets_decide
