use Rattle.byte_forms.specs.Runs.{RunSoFar}
use Rattle.byte_forms.proofs.forming.class_form.Given as goal

-- the bytes from here on are done
abbrev pub invariant-loop-below : goal.invariant-loop-below
invariant-loop-below l = RunSoFar l.class l.bound l.initial.arena l.arena l.run l.below

abbrev pub decreases-loop-below : goal.decreases-loop-below
decreases-loop-below l = l.below
