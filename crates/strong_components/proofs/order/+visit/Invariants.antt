use Rattle.std.proofs.Common.{take}
use Rattle.std.specs.List.{sum_by}
use Rattle.strong_components.specs.Walk.{weight_of}
use Rattle.strong_components.proofs.WalkLemmas.{IsVisiting}
use Rattle.strong_components.proofs.order.+visit.Given as goal

abbrev pub decreases-visit : goal.decreases-visit
decreases-visit l = sum_by weight_of l.marks.now.items

abbrev pub invariant-loop-target : goal.invariant-loop-target
invariant-loop-target l = IsVisiting l.edges l.fn.marks.items l.marks.items l.order.items l.node (take l.target-index l.targets)
