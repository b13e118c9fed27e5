use Rattle.equal_sets.proofs.SetLemmas.{AreOwn}
use Rattle.equal_sets.proofs.joining.begin.Given as goal

abbrev pub invariant-loop-n : goal.invariant-loop-n
invariant-loop-n l = AreOwn l.n l.of.items l.done.items
