use Rattle.broken_forms.proofs.Loosened.{broken_have_bad}
use Rattle.broken_forms.proofs.laws.broken_have_bad.Goals as goal

pub returns : goal.returns
returns c = broken_have_bad
