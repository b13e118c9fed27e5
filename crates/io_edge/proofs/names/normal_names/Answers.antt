use Rattle.io_edge.proofs.NormalNames.{normal_again, plain_is_normal}
use Rattle.io_edge.proofs.names.normal_names.Goals as goal

pub returns-clause-again : goal.returns-clause-again
returns-clause-again c = normal_again

pub returns-clause-plain : goal.returns-clause-plain
returns-clause-plain c = plain_is_normal
