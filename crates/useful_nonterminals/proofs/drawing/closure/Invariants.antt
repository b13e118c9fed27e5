use Rattle.std.proofs.Common.{◌-◌}
use Rattle.useful_nonterminals.specs.Work.{IsWork}
use Rattle.useful_nonterminals.proofs.drawing.closure.Given as goal

abbrev pub invariant-loop-n : goal.invariant-loop-n
invariant-loop-n l = IsWork l.facts l.rules l.count l.marks.items l.order.items l.taken

abbrev pub decreases-loop-n : goal.decreases-loop-n
decreases-loop-n l = 18446744073709551616 - l.taken
