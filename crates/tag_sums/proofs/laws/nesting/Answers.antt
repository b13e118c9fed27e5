use Rattle.tag_sums.proofs.NestLemmas.{nests_compose, whole_nested}
use Rattle.tag_sums.proofs.laws.nesting.Goals as goal

pub returns-clause-composes : goal.returns-clause-composes
returns-clause-composes c = nests_compose

pub returns-clause-balanced : goal.returns-clause-balanced
returns-clause-balanced c = whole_nested
