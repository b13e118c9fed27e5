use Rattle.resolving.proofs.StepLemmas.{any_done}
use Rattle.resolving.proofs.laws.any_is_done.Goals as goal

pub returns : goal.returns
returns c ps after count rule set fit draft has circles exact adds = any_done c.args.s.now ps after count rule set fit draft has circles exact adds
