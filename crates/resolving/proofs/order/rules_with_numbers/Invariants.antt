use Rattle.resolving.specs.Order.{AreRankedBelow}
use Rattle.resolving.proofs.order.rules_with_numbers.Given as goal

abbrev pub invariant-loop-place : goal.invariant-loop-place
invariant-loop-place l = AreRankedBelow l.s l.numbers l.place l.ranked.items
