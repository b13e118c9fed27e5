use Rattle.resolving.specs.Order.{AreAdded}
use Rattle.resolving.proofs.resolution.add_rules.Given as goal

abbrev pub invariant-loop-ranked : goal.invariant-loop-ranked
invariant-loop-ranked l = AreAdded l.s l.order l.ranked-index l.draft
