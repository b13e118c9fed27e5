use Rattle.strong_components.specs.Opening.{GoesOn, IsMet, work_of}
use Rattle.strong_components.proofs.labeling.explore.Given as goal

abbrev pub invariant-loop-start : goal.invariant-loop-start
invariant-loop-start l = record { goes_on : GoesOn l.edges l.fn.search l.search; met : IsMet l.search.marks.items l.node }

abbrev pub decreases-loop-start : goal.decreases-loop-start
decreases-loop-start l = work_of l.search
