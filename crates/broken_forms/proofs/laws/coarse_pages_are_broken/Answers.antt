use Rattle.broken_forms.proofs.Ending.{coarse_are_broken}
use Rattle.broken_forms.proofs.laws.coarse_pages_are_broken.Goals as goal

pub returns : goal.returns
returns c = coarse_are_broken
