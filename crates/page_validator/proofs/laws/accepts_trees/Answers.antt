use Rattle.page_validator.proofs.Accepting.{accepting}
use Rattle.page_validator.proofs.Rooted.{whole}
use Rattle.page_validator.proofs.laws.accepts_trees.Goals as goal

pub returns : goal.returns
returns c = λ d t decides ts. (whole d t decides ts, accepting d t decides ts)
