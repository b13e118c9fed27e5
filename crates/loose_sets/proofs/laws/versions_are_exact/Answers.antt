use Rattle.loose_sets.specs.Versions.{asked_in, linked_in}
use Rattle.loose_sets.proofs.Exact.{exact}
use Rattle.loose_sets.proofs.laws.versions_are_exact.Goals as goal

pub returns : goal.returns
returns c flow joins are p x v s kept d = exact flow (asked_in joins) (linked_in joins) are p x v s kept d
