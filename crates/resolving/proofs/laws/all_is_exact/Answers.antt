use Rattle.resolving.proofs.StepLemmas.{all_exact}
use Rattle.resolving.proofs.laws.all_is_exact.Goals as goal

pub returns : goal.returns
returns c ps count draft done a lt = all_exact c.args.s.now ps count draft done a lt
