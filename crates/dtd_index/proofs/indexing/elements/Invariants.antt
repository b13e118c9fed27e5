use Rattle.std.proofs.Common.{◌≡◌, ◌++◌, drop}
use Rattle.dtd_index.specs.Keys.{element_names}
use Rattle.dtd_index.proofs.indexing.elements.Given as goal

abbrev pub invariant-loop-rule : goal.invariant-loop-rule
invariant-loop-rule l = l.index ++ element_names (drop l.rule-index l.dtd.elements.items) ≡ element_names l.dtd.elements.items
