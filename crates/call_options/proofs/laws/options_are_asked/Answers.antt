use Rattle.call_options.proofs.Canonical.{options_put}
use Rattle.call_options.proofs.laws.options_are_asked.Goals as goal

pub returns : goal.returns
returns c = options_put
