use Rattle.std.proofs.Common.{rules}
use Rattle.io_edge.proofs.NameLemmas.{joined}
use Rattle.io_edge.proofs.names.Parts.name.Goals as goal

pub returns-then-self : goal.returns-then-self
returns-then-self c = search (rules, joined)

pub returns : goal.returns
returns c = search (rules, joined)
