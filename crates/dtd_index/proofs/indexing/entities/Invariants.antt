use Rattle.std.proofs.Common.{◌≡◌, ◌++◌, drop}
use Rattle.dtd_index.proofs.indexing.entities.Given as goal

abbrev pub invariant-loop-name : goal.invariant-loop-name
invariant-loop-name l = l.index ++ drop l.name-index l.dtd.entities.items ≡ l.dtd.entities.items
