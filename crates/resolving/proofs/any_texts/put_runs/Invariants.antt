use Rattle.std.proofs.Common.{◌-◌, ◌≤◌}
use Rattle.resolving.specs.AnyTexts.{PutsRuns}
use Rattle.resolving.proofs.any_texts.put_runs.Given as goal

abbrev pub invariant-loop-next : goal.invariant-loop-next
invariant-loop-next l = (l.next ≤ 257) × PutsRuns l.texts l.set 0 l.next l.initial.draft l.draft

abbrev pub decreases-loop-next : goal.decreases-loop-next
decreases-loop-next l = 257 - l.next
